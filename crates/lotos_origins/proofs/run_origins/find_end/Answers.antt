use Rattle.std.proofs.Common.{◌≡◌, arith, length, refl, subst}
use Rattle.std.specs.Prelude.{MatchBool}
use Rattle.std.proofs.lemmas.Option.{slice_get_read}
use Rattle.lotos_check.proofs.ListIndices.{get_in}
use Rattle.lotos_terms.proofs.GrowingTables.{below_grows, grows_then}
use Rattle.lotos_origins.specs.RunLayers.{IsEndAt}
use Rattle.lotos_origins.proofs.RunEnds.{no_end_at_all, no_end_more}
use Rattle.lotos_origins.proofs.run_origins.find_end.Goals as goal

pub refuses-requires : goal.refuses-requires
refuses-requires c =
    let ts = c.args.terms.now in
    let at = slice_get_read ts _ c.loop-index.index _ refl c.loop-index-test.true c.index-terms-index.is in
    below_grows c.args.table.now c.loop-index.table c.loop-index.invariant.grows _ (c.requires.known _ (get_in ts c.loop-index.index _ at))

pub returns-then-branch-clause-end : goal.returns-then-branch-clause-end
returns-then-branch-clause-end c =
    let ts = c.args.terms.now in
    let x = c.index-terms-index.result in
    let new = c.refuses.new.table in
    let set = c.args.refused.now in
    let at = slice_get_read ts _ c.loop-index.index _ refl c.loop-index-test.true c.index-terms-index.is in
    let is : IsEndAt new set x = subst (λ b. MatchBool b (IsEndAt new set x) (IsEndAt new set x → ⊥)) c.if-branch.true c.in_ok-refuses.ensures.refuses in
    (x, at, is)

pub loop-index-preserved : goal.loop-index-preserved
loop-index-preserved c =
    let ts = c.args.terms.now in
    let x = c.index-terms-index.result in
    let old = c.args.table.now in
    let new = c.refuses.new.table in
    let set = c.args.refused.now in
    let done = c.in_ok-refuses.ensures in
    let at = slice_get_read ts _ c.loop-index.index _ refl c.loop-index-test.true c.index-terms-index.is in
    let none : IsEndAt new set x → ⊥ = subst (λ b. MatchBool b (IsEndAt new set x) (IsEndAt new set x → ⊥)) c.if-branch.false done.refuses in
    let grows = grows_then old c.loop-index.table new c.loop-index.invariant.grows done.grows in
    record {
      grows = grows;
      sound = done.sound;
      none = no_end_more old new set ts c.loop-index.index x grows at none c.loop-index.invariant.none;
    }

pub unreachable-requires : goal.unreachable-requires
unreachable-requires c =
    let ts = c.args.terms.now in
    let set = c.args.refused.now in
    let (x, there, is) = c.requires.end in
    let end : c.loop-index.index ≡ length ts = omega (arith, c.loop-index-test.false, c.loop-index.auto.index-end) in
    no_end_at_all c.args.table.now c.loop-index.table set ts c.loop-index.index end c.loop-index.invariant.none
    (x, there, is)
