use Rattle.std.specs.Prelude.{None}
use Rattle.std.proofs.Common.{sym}
use Rattle.lotos_check.proofs.ListIndices.{contains_in}
use Rattle.lotos_explain.proofs.SimilarNames.{from_more, from_nothing}
use Rattle.lotos_explain.proofs.similar_names.similar_name.Goals as goal

pub loop-other-preserved : goal.loop-other-preserved
loop-other-preserved c =
    let other = c.other-item.result in
    let located = contains_in c.args.names.now other (c.loop-other.other-index, c.loop-other-test.true, sym c.other-item.is) in
    let (before, similar) = c.loop-other.invariant in (
      from_more (λ k. k.now) None c.loop-other.closest c.in_ok-closest.closest c.args.names.now other located before c.in_ok-closest.ensures.from,
      c.in_ok-closest.ensures.similar similar,
    )

pub returns-clause-among : goal.returns-clause-among
returns-clause-among c = from_nothing (λ k. k.now) c.loop-other.closest c.args.names.now c.loop-other.invariant.0
