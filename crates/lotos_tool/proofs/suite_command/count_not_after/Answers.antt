use Rattle.std.proofs.Common.{◌≡◌, ◌∙◌, Some, ap, arith, inl, inr, map, refl, subst, sym}
use Rattle.std.specs.Prelude.{slice_get}
use Rattle.std.proofs.Math.Nat.{eq-or-lt_of_le}
use Rattle.std.proofs.lemmas.Option.{slice_get_read, slice_get_within}
use Rattle.lotos_check.specs.NameLists.{In}
use Rattle.lotos_check.proofs.ListIndices.{get_in, one_item}
use Rattle.lotos_listing.specs.Lookups.{text_of}
use Rattle.lotos_listing.specs.Order.{After}
use Rattle.lotos_suite.specs.declared.suite.SuiteLine.{SuiteLine}
use Rattle.lotos_tool.proofs.suite_command.count_not_after.Goals as goal

pub is_after_mark-requires : goal.is_after_mark-requires
is_after_mark-requires c =
    let line = c.index-lines-index.result in
    let at = slice_get_read c.args.lines.now _ c.loop-index.index line refl c.loop-index-test.true c.index-lines-index.is in
    let there = get_in c.args.lines.now c.loop-index.index line at in
    record { known = λ k i. (text_of c.args.gates.now k, c.requires.printed line there k (subst (In k) c.as_slice.ensures.value i)) }

pub returns-then-is_after_mark-clause-after : goal.returns-then-is_after_mark-clause-after
returns-then-is_after_mark-clause-after c = λ line is.
    let here = c.index-lines-index.result in
    let at = slice_get_read c.args.lines.now _ c.loop-index.index here refl c.loop-index-test.true c.index-lines-index.is in
    let same = one_item c.args.lines.now c.loop-index.index here line at is in
    subst (λ ls. After c.args.mark.now (map (text_of c.args.gates.now) ls)) (c.as_slice.ensures.value ∙ ap (λ (l : SuiteLine). l.labels.items) same)
    c.if-is_after_mark.ensures

pub loop-index-preserved : goal.loop-index-preserved
loop-index-preserved c = λ k line less is late. elim (eq-or-lt_of_le {n = k} {m = c.loop-index.index} (omega arith)) [
  | inr lower ↦ c.loop-index.invariant k line lower is late
  | inl q ↦
      let here = c.index-lines-index.result in
      let at = slice_get_read c.args.lines.now _ c.loop-index.index here refl c.loop-index-test.true c.index-lines-index.is in
      let same = one_item c.args.lines.now c.loop-index.index here line at (subst (λ j. slice_get c.args.lines.now j ≡ Some line) q is) in
      c.if-is_after_mark.ensures
      (subst (λ ls. After c.args.mark.now (map (text_of c.args.gates.now) ls))
      (sym (c.as_slice.ensures.value ∙ ap (λ (l : SuiteLine). l.labels.items) same)) late)
]

pub returns-clause-after : goal.returns-clause-after
returns-clause-after c = λ line is. let w = slice_get_within c.args.lines.now _ line is in absurd (omega arith)
