use Rattle.std.proofs.Common.{◌≡◌, ◌∙◌, ◌∷◌, [], Some, ap, arith, inl, inr, length, length-append, refl, subst, slice_get}
use Rattle.std.proofs.lemmas.Option.{slice_get_read}
use Rattle.lotos_check.proofs.ListIndices.{get_added, get_in, one_item}
use Rattle.lotos_suite.specs.SuiteResults.{HasLabels}
use Rattle.lotos_suite.proofs.suite.with_labels.Goals as goal

pub with_label-requires : goal.with_label-requires
with_label-requires c =
    let at = slice_get_read c.args.lines.now _ _ _ refl c.loop-line-test.true c.line-item.is in
    c.requires c.line-item.result (get_in c.args.lines.now c.loop-line.line-index c.line-item.result at)

pub loop-line-preserved : goal.loop-line-preserved
loop-line-preserved c =
    let l = c.loop-line in
    let item = c.in_ok-with_label.field-0 in
    let at = slice_get_read c.args.lines.now _ _ _ refl c.loop-line-test.true c.line-item.is in
    let pushed = c.in_ok-push.ensures.items in
    let counted = l.invariant.counted in
    let long = length-append l.result.items (item ∷ []) in
    record {
      counted = let e = ap length pushed in omega arith;
      each = λ k line other here there. elim (get_added l.result.items item k other (subst (λ xs. slice_get xs k ≡ Some other) pushed there)) [
        | inl before ↦ l.invariant.each k line other here before
        | inr (last, same) ↦
            let equal = one_item c.args.lines.now l.line-index c.line-item.result line at
            (subst (λ i. slice_get c.args.lines.now i ≡ Some line) (last ∙ counted) here) in
            subst (λ z. HasLabels c.args.labels.now z other) equal (subst (HasLabels c.args.labels.now c.line-item.result) same c.in_ok-with_label.ensures)
      ];
    }
