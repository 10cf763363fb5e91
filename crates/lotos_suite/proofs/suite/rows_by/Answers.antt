use Rattle.std.proofs.Common.{◌≡◌, ◌∙◌, ◌<◌, ◌∷◌, [], Some, ap, arith, inl, inr, length, length-append, subst, sym, slice_get}
use Rattle.std.proofs.lemmas.List.{length-map, map-append}
use Rattle.std.proofs.lemmas.Option.{slice_get_within}
use Rattle.lotos_check.specs.NameLists.{In}
use Rattle.lotos_check.proofs.ListIndices.{get_added, map_read, one_item}
use Rattle.lotos_store.specs.Interning.{plain_lists}
use Rattle.lotos_suite.specs.SuiteResults.{IsRowBy}
use Rattle.lotos_suite.proofs.suite.rows_by.Goals as goal

pub loop-state-init : goal.loop-state-init
loop-state-init c = record {
  counted = ap length c.new-rows.ensures.items;
  rows = λ j list row at there. (let z = subst (λ xs. slice_get (plain_lists xs) j ≡ Some row) c.new-rows.ensures.items there in
      let n = slice_get_within [] j row z in let k : j < 0 = n in absurd (omega arith));
}

pub row_of-requires-clause-inside : goal.row_of-requires-clause-inside
row_of-requires-clause-inside c = λ l m i.
    let at = map_read (λ v. v.items) c.args.graph.now _ c.index-graph-state.result c.loop-state-test.true c.index-graph-state.is in
    c.requires.inside c.loop-state.state c.index-graph-state.result.items l m at (subst (In (l, m)) c.as_slice.ensures.value i)

pub loop-state-preserved : goal.loop-state-preserved
loop-state-preserved c =
    let l = c.loop-state in
    let row = c.in_ok-row.row in
    let at = map_read (λ v. v.items) c.args.graph.now _ c.index-graph-state.result c.loop-state-test.true c.index-graph-state.is in
    let pushed = c.in_ok-push.ensures.items in
    let plain = ap plain_lists pushed ∙ map-append (λ v. v.items) l.rows.items (row ∷ []) in
    let long = length-append l.rows.items (row ∷ []) in
    let many = length-map l.rows.items (λ v. v.items) in
    let counted = l.invariant.counted in
    record {
      counted = let e = ap length pushed in omega arith;
      rows = λ j list items here there. elim (get_added (plain_lists l.rows.items) row.items j items (subst (λ xs. slice_get xs j ≡ Some items) plain there)) [
        | inl before ↦ l.invariant.rows j list items here before
        | inr (last, same) ↦
            let number : j ≡ l.state = omega arith in
            let equal = one_item (plain_lists c.args.graph.now) l.state c.index-graph-state.result.items list at
            (subst (λ i. slice_get (plain_lists c.args.graph.now) i ≡ Some list) number here) in
            subst (λ z. IsRowBy c.args.access.now j list c.args.labels.now z) same
            (subst (λ z. IsRowBy c.args.access.now z list c.args.labels.now row.items) (sym number)
            (subst (λ z. IsRowBy c.args.access.now l.state z c.args.labels.now row.items) (c.as_slice.ensures.value ∙ equal) c.in_ok-row.ensures))
      ];
    }
