use Rattle.std.proofs.Common.{◌≡◌, ◌∙◌, Some, ap, arith, inl, inr, map, rules, string_bytes, subst, sym}
use Rattle.std.specs.Prelude.{slice_get}
use Rattle.std.proofs.lemmas.Bool.{cases_eq}
use Rattle.std.proofs.lemmas.List.{length-map}
use Rattle.std.proofs.lemmas.Option.{slice_get_within}
use Rattle.lotos_check.proofs.ListIndices.{in_get, map_read, one_item}
use Rattle.lotos_listing.specs.NamedLabels.{HasGate}
use Rattle.alloc_retries.proofs.after_calls.have_gates.Goals as goal

pub loop-word-preserved : goal.loop-word-preserved
loop-word-preserved c = λ k word below there.
    let words = map string_bytes c.args.words.now in
    let n = c.loop-word.word-index in
    let text = c.as_str.result.now in
    let at : slice_get words n ≡ Some text =
    map_read string_bytes c.args.words.now n _ c.loop-word-test.true c.word-item.is ∙ ap Some (sym c.as_str.ensures.value) in
    elim (cases_eq k n) [
      | inl same ↦
          let is : text ≡ word = one_item words n text word at (subst (λ j. slice_get words j ≡ Some word) same there) in
          subst (HasGate c.args.gates.now) is (c.in_ok-has_gate.ensures (search (rules, c.if-not-branch.false)))
      | inr other ↦ c.loop-word.invariant k word (omega arith) there
    ]

pub returns : goal.returns
returns c = λ _ word i.
    let words = map string_bytes c.args.words.now in
    let at = in_get words word i in
    let long = length-map c.args.words.now string_bytes in
    let below = slice_get_within words at.0 word at.1 in
    c.loop-word.invariant at.0 word (omega arith) at.1
