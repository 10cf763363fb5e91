use Rattle.std.proofs.Common.{◌≡◌, map, arith, below_more}
use Rattle.std.proofs.lemmas.List.{length-map}
use Rattle.std.proofs.lemmas.Option.{slice_get_within}
use Rattle.lotos_check.specs.RankingSteps.{IsStuckAt}
use Rattle.lotos_check.proofs.guardedness.rank_round.Goals as goal

pub returns-clause-stuck : goal.returns-clause-stuck
returns-clause-stuck c = λ same p waits.
    let within = slice_get_within c.loop-process.ranks p _ waits in
    let sized = c.loop-process.invariant.ordered.sized in
    let lengths = length-map c.args.edges.now (λ v. v.items) in
    c.loop-process.invariant.stuck same p (omega arith) waits

pub loop-process-preserved : goal.loop-process-preserved
loop-process-preserved c = record {
  ordered = c.try_rank-now.ensures.ordered;
  up = let before = c.loop-process.invariant.up in let step = c.try_rank-now.ensures.up in omega arith;
  stuck = λ e.
      let before = c.loop-process.invariant.up in
      let step = c.try_rank-now.ensures.up in
      let first : c.loop-process.now ≡ c.args.next = omega arith in
      let second : c.try_rank-now.result ≡ c.loop-process.now = omega arith in
      let same = c.try_rank-now.ensures.same second in
      below_more (IsStuckAt (map (λ v. v.items) c.args.edges.now) c.try_rank-now.new.ranks) _
      (λ k below. rw same (c.loop-process.invariant.stuck first k below)) (c.try_rank-now.ensures.stuck second);
}
