use Rattle.lotos_check.proofs.RankLists.{one_more, none_missing}
use Rattle.lotos_check.proofs.guardedness.unwrap_ranks.Goals as goal
use Rattle.lotos_check.proofs.guardedness.unwrap_ranks.Goals.{in-Some+in_ok-push, in_default}

pub loop-rank-preserved : goal.loop-rank-preserved
loop-rank-preserved c =
    let found = c.loop-rank.all_ranks.items in
    let at_ = c.loop-rank.rank-index in
    let within = c.loop-rank-test.true in
    elim c.match-rank.branch [
      | in-Some+in_ok-push w ↦ rw (w.all_ranks-is, w.in_ok-push.ensures.items)
          (one_more found w.in-Some.number at_ c.args.ranks.now within w.in-Some.is c.loop-rank.invariant)
      | in_default w ↦ absurd (none_missing at_ c.args.ranks.now within w.in_default.is c.requires)
    ]
