use Rattle.std.proofs.Common.{◌≡◌, ◌∙◌, ℕ, Some, ap, arith, inl, inr, refl, subst, sym, slice_get, true, false}
use Rattle.std.proofs.lemmas.Bool.{cases_eq}
use Rattle.std.proofs.lemmas.Option.{slice_get_read, slice_get_within}
use Rattle.lotos_check.proofs.ListIndices.{get_in, in_get, one_item}
use Rattle.lotos_store.specs.declared.label.Label.{Label as TermLabel}
use Rattle.lotos_suite.proofs.suite.target_by.Goals as goal

pub returns-then-eq : goal.returns-then-eq
returns-then-eq c =
    let list = c.args.transitions.now in
    let index = c.loop-transition.transition-index in
    let there = slice_get_read list _ _ _ refl c.loop-transition-test.true c.transition-item.is in
    let at = subst (λ t. slice_get list index ≡ Some t) (sym c.transition.view_is) there in
    get_in list index (c.args.label, c.transition.inside.state)
    (subst (λ z. slice_get list index ≡ Some (z, c.transition.inside.state))
    (c.equal_labels.ensures.same c.transition.inside.label c.args.label (sym c.eq.ensures ∙ c.if-eq.true)) at)

pub loop-transition-preserved : goal.loop-transition-preserved
loop-transition-preserved c = λ n m less here.
    let list = c.args.transitions.now in
    let index = c.loop-transition.transition-index in
    let there = slice_get_read list _ _ _ refl c.loop-transition-test.true c.transition-item.is in
    let at = subst (λ t. slice_get list index ≡ Some t) (sym c.transition.view_is) there in
    elim (cases_eq n index) [
      | inl same ↦
          let equal = one_item list index (c.transition.inside.label, c.transition.inside.state) (c.args.label, m) at
          (subst (λ i. slice_get list i ≡ Some (c.args.label, m)) same here) in
          let label : c.transition.inside.label ≡ c.args.label = ap (λ (t : TermLabel × ℕ). t.0) equal in
          let yes_ : c.eq.result ≡ true = (let e = c.eq.ensures in let i = c.equal_labels.ensures.itself c.args.label in cc) in
          let no_ : c.eq.result ≡ false = c.if-eq.false in
          let z : true ≡ false = sym yes_ ∙ no_ in
          cc
      | inr other ↦ c.loop-transition.invariant n m (grind arith) here
    ]

pub returns : goal.returns
returns c = λ m i.
    let (n, at) = in_get c.args.transitions.now (c.args.label, m) i in
    let within = slice_get_within c.args.transitions.now n (c.args.label, m) at in
    let end = c.loop-transition-test.false in
    c.loop-transition.invariant n m (omega arith) at
