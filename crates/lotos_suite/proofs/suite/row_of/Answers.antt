use Rattle.std.proofs.Common.{◌≡◌, ◌∙◌, ◌∷◌, [], Some, ap, arith, inl, inr, length, length-append, refl, subst, slice_get}
use Rattle.std.proofs.lemmas.Option.{slice_get_read}
use Rattle.lotos_check.proofs.ListIndices.{get_added, one_item}
use Rattle.lotos_suite.specs.SuiteResults.{IsMoveBy}
use Rattle.lotos_suite.proofs.suite.row_of.Goals as goal

pub loop-label-preserved : goal.loop-label-preserved
loop-label-preserved c =
    let l = c.loop-label in
    let at = slice_get_read c.args.labels.now _ _ _ refl c.loop-label-test.true c.label-item.is in
    let pushed = c.in_ok-push.ensures.items in
    let counted = l.invariant.counted in
    let long = length-append l.row.items (c.move_by.result ∷ []) in
    record {
      counted = let e = ap length pushed in omega arith;
      moves = λ i x entry here there. elim (get_added l.row.items c.move_by.result i entry (subst (λ xs. slice_get xs i ≡ Some entry) pushed there)) [
        | inl before ↦ l.invariant.moves i x entry here before
        | inr (last, same) ↦
            let equal = one_item c.args.labels.now l.label-index c.label-item.result x at
            (subst (λ n. slice_get c.args.labels.now n ≡ Some x) (last ∙ counted) here) in
            subst (IsMoveBy c.args.access.now c.args.state c.args.transitions.now x) same
            (subst (λ z. IsMoveBy c.args.access.now c.args.state c.args.transitions.now z c.move_by.result) equal c.move_by.ensures)
      ];
    }
