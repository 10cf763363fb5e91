use Rattle.std.proofs.Common.{◌≡◌, ◌∙◌, ◌∷◌, ◌++◌, [], None, ap, arith, subst, sym}
use Rattle.lotos_suite.proofs.ApartRounds.{begun}
use Rattle.lotos_suite.specs.ApartSearch.{HasSearched}
use Rattle.lotos_store.specs.Interning.{plain_lists}
use Rattle.lotos_suite.proofs.apart_sequences.ApartSequences.begin.Goals as goal

pub returns-clause-begun : goal.returns-clause-begun
returns-clause-begun c = λ s is states.
    let l = c.loop in
    let end = c.loop-test.false in
    let stop = l.auto.counter-end in
    let first = l.invariant.counted_all in
    let second = l.invariant.counted in
    let can : plain_lists c.push-2.new.self.items ≡ l.all.items ∷ [] =
    ap plain_lists (c.in_ok-push-3.ensures.items ∙ ap (λ xs. xs ++ l.all ∷ []) c.new-can.ensures.items) in
    let steps : c.push-3.new.self.items ≡ None ∷ [] = c.in_ok-push-4.ensures.items ∙ ap (λ xs. xs ++ None ∷ []) c.new-steps.ensures.items in
    subst (λ xs. HasSearched s xs (plain_lists c.push-2.new.self.items) l.classes.items 0 0 1 0 0) (sym steps)
    (subst (λ ys. HasSearched s (None ∷ []) ys l.classes.items 0 0 1 0 0) (sym can)
    (begun s is l.all.items l.classes.items (omega arith) (omega arith) l.invariant.true_all l.invariant.zeros))
