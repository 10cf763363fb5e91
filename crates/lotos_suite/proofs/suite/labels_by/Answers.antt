use Rattle.std.proofs.Common.{◌≡◌, ◌∙◌, ◌∷◌, [], Some, ap, arith, inl, inr, length, length-append, subst, slice_get}
use Rattle.std.proofs.lemmas.Option.{slice_get-get_or}
use Rattle.lotos_check.proofs.ListIndices.{get_added, get_in, one_item}
use Rattle.lotos_suite.proofs.suite.labels_by.Goals as goal

pub label_at-requires : goal.label_at-requires
label_at-requires c = c.requires _ (get_in c.args.numbers.now c.loop-number.number-index _
    (slice_get-get_or c.args.numbers.now c.loop-number.number-index 0 c.loop-number-test.true))

pub loop-number-preserved : goal.loop-number-preserved
loop-number-preserved c =
    let l = c.loop-number in
    let here = slice_get-get_or c.args.numbers.now l.number-index 0 c.loop-number-test.true in
    let pushed = c.in_ok-push.ensures.items in
    let counted = l.invariant.counted in
    let long = length-append l.list.items (c.label_at.result ∷ []) in
    record {
      counted = let e = ap length pushed in omega arith;
      each = λ k n x at there. elim (get_added l.list.items c.label_at.result k x (subst (λ xs. slice_get xs k ≡ Some x) pushed there)) [
        | inl before ↦ l.invariant.each k n x at before
        | inr (last, same) ↦
            let number = one_item c.args.numbers.now l.number-index _ n here
            (subst (λ i. slice_get c.args.numbers.now i ≡ Some n) (last ∙ counted) at) in
            subst (λ i. slice_get c.args.labels.now i ≡ Some x) number (c.label_at.ensures ∙ ap (λ z. Some z) same)
      ];
    }
