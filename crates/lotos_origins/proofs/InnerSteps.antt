-- What makes an internal step of a term, from the internal steps of its parts, by the numbers of terms.
use Rattle.std.proofs.Common.{◌≡◌, ◌∙◌, ◌⊎◌, ◌<◌, ℕ, List, Option, None, Some, ap, arith, inl, inr, refl, subst, sym}
use Rattle.std.specs.Prelude.{slice_get, zip}
use Rattle.lotos_check.specs.NameLists.{In}
use Rattle.lotos_check.proofs.ListIndices.{one_item}
use Rattle.lotos_store.specs.Terms.{Process, Term, call, choice, disable, enable, hide, par, prefix, relabel}
use Rattle.lotos_store.specs.declared.label.Label.{Label}
use Rattle.lotos_store.specs.declared.label.Label.TheVariants as l
use Rattle.lotos_terms.specs.Steps.{Step}
use Rattle.lotos_terms.specs.TableView.{IsSoundView, TableView}
use Rattle.lotos_normal.specs.ProcessBodies.{HasBodiesBelow, IsBodyIn}
use Rattle.lotos_origins.specs.Origins as i
use Rattle.lotos_origins.specs.Origins.{InternalStep}
use Rattle.lotos_origins.specs.OriginSearch.{IsFinding, IsFirstOf, IsHiddenStep, IsInEnabling, IsInOperand, IsInner, IsOriginIn, LeadsBy, LeadsInternally}
use Rattle.lotos_origins.specs.Parts.{IsPart}
use Rattle.lotos_origins.specs.declared.origin.Origin.{Origin}
use Rattle.lotos_origins.specs.declared.origin.Origin.TheVariants as origin
use Rattle.lotos_origins.specs.declared.origin_search.Finding.{Finding}
use Rattle.lotos_origins.specs.declared.origin_search.Finding.TheVariants as finding
use Rattle.lotos_origins.proofs.InternalCases.{Goes, no_own_operand, of_call, of_choice, of_disable, of_enable, of_hide, of_par, of_prefix, of_relabel}

module _ (v : TableView) (sound : IsSoundView v) (n m : ℕ) (u : Term) (there : slice_get v.terms m ≡ Some u) where
  -- the term with a number
  abbrev pub At : ℕ → Term → Type 0
  At k t = slice_get v.terms k ≡ Some t

  -- a step between numbers is one between their terms
  between : (k : Label) (a b : ℕ) (x y : Term) → At a x → At b y → LeadsBy v k a b → Step v.processes x k y
  between k a b x y first last leads =
      let from : leads.from ≡ x = one_item v.terms a leads.from x leads.located first in
      let to : leads.to ≡ y = one_item v.terms b leads.to y leads.leads last in
      subst (λ z. Step v.processes x k z) to (subst (λ z. Step v.processes z k leads.to) from leads.step)

  -- a step between terms is one between their numbers
  leads_as : (k : Label) (a b : ℕ) (x y : Term) → At a x → At b y → Step v.processes x k y → LeadsBy v k a b
  leads_as k a b x y first last step = record { from = x; to = y; located = first; leads = last; step = step }

  -- a part is below each bound of the term
  part_below : (a : ℕ) → a < n → (bound : ℕ) → HasBodiesBelow v bound → n < bound → a < bound
  part_below a less bound bodies below = omega (arith, less, below)

  -- the origin of an internal step from the term with the number `n` to `u` is one of a step from `n` to `m`
  made : (t : Term) (o : Origin) → At n t → InternalStep v.processes t o u → IsOriginIn v n m o
  made t o at step = record { from = t; to = u; located = at; leads = there; step = step }

  -- an internal step from `a` to `b` is inside one from `n` to `m` if its origins are passed on and its numbers fall
  inner : (t x y : Term) (a b : ℕ) → At n t → At a x → At b y → Goes v.processes x y →
      ((o : Origin) → InternalStep v.processes x o y → InternalStep v.processes t o u) → (b < m) ⊎ ((b ≡ m) × (a < n)) →
      ((bound : ℕ) → HasBodiesBelow v bound → n < bound → a < bound) → IsInner v n m a b
  inner t x y a b at first last step passes falls below = record {
    leads = leads_as l.Internal a b x y first last step;
    passes = λ o is.
        let from : is.from ≡ x = one_item v.terms a is.from x is.located first in
        let to : is.to ≡ y = one_item v.terms b is.to y is.leads last in
        made t o at (passes o (subst (λ z. InternalStep v.processes x o z) to (subst (λ z. InternalStep v.processes z o is.to) from is.step)));
    falls = falls;
    below = below;
  }

  -- what is found, as a variant
  is_inner : (a b : ℕ) (found : Finding) → found ≡ finding.Inner a b → IsInner v n m a b → IsFinding v n m found
  is_inner a b found is h = subst (IsFinding v n m) (sym is) h

  -- a finding that is an origin of an internal step from `n` to `m` is right
  is_made : (o : Origin) (found : Finding) → found ≡ finding.Made o → IsOriginIn v n m o → IsFinding v n m found
  is_made o found is h = subst (IsFinding v n m) (sym is) h

  -- an internal step of a prefix has the text as its origin
  pub prefix_found : (a : Option ℕ) (b : Term) → At n (prefix a b) → Goes v.processes (prefix a b) u → IsFinding v n m (finding.Made origin.Text)
  prefix_found a b at step =
      let (text, to) = of_prefix v.processes step in
      made (prefix a b) origin.Text at (subst (λ z. InternalStep v.processes (prefix z b) origin.Text u) (sym text)
      (subst (λ z. InternalStep v.processes (prefix None b) origin.Text z) (sym to) i.acts_inside))

  module _ (left right : ℕ) (a b : Term) (first : IsPart v.terms n a left) (second : IsPart v.terms n b right) where
    pub choice_found : At n (choice a b) → Goes v.processes (choice a b) u → (found : Finding) → IsFirstOf v left m right m found → IsFinding v n m found
    choice_found at step found (inl (is, goes)) = is_inner left m found is (inner (choice a b) a u left m at first.1 there
        (between l.Internal left m a u first.1 there goes) (λ o. i.chooses_left) (inr (refl, first.0)) (part_below left first.0))
    choice_found at step found (inr (is, never)) = elim (of_choice v.processes step) [
      | inl goes ↦ absurd (never (leads_as l.Internal left m a u first.1 there goes))
      | inr goes ↦ is_inner right m found is (inner (choice a b) b u right m at second.1 there goes (λ o. i.chooses_right) (inr (refl, second.0))
          (part_below right second.0))
    ]

    pub disable_found : At n (disable a b) → Goes v.processes (disable a b) u → (target : ℕ) →
        ((t : Term) → u ≡ disable t b → IsPart v.terms m t target) → (found : Finding) → IsFirstOf v right m left target found → IsFinding v n m found
    disable_found at step target part found (inl (is, goes)) = is_inner right m found is (inner (disable a b) b u right m at second.1 there
        (between l.Internal right m b u second.1 there goes) (λ o. i.disables) (inr (refl, second.0)) (part_below right second.0))
    disable_found at step target part found (inr (is, never)) = elim (of_disable v.processes step) [
      | inl (t, to, goes) ↦
          let (less, last) = part t to in
          is_inner left target found is (inner (disable a b) a t left target at first.1 last goes
          (λ o h. subst (λ z. InternalStep v.processes (disable a b) o z) (sym to) (i.goes_on_undisturbed h)) (inl less) (part_below left first.0))
      | inr goes ↦ absurd (never (leads_as l.Internal right m b u second.1 there goes))
    ]

    pub enable_found : At n (enable a b) → Goes v.processes (enable a b) u → (target : ℕ) →
        ((t : Term) → u ≡ enable t b → IsPart v.terms m t target) → (found : Finding) → IsInEnabling left target right m found → IsFinding v n m found
    enable_found at step target part found (inl (is, same)) = elim (of_enable v.processes step) [
      | inl (t, to, goes) ↦
          let own : u ≡ b = one_item v.terms m u b there (subst (λ k. At k b) (sym same) second.1) in
          absurd (no_own_operand t b (sym own ∙ to))
      | inr (t, to, done) ↦ is_made origin.Termination found is (made (enable a b) origin.Termination at
          (subst (λ z. InternalStep v.processes (enable a b) origin.Termination z) (sym to) (i.enables done)))
    ]
    enable_found at step target part found (inr (is, other)) = elim (of_enable v.processes step) [
      | inl (t, to, goes) ↦
          let (less, last) = part t to in
          is_inner left target found is (inner (enable a b) a t left target at first.1 last goes
          (λ o h. subst (λ z. InternalStep v.processes (enable a b) o z) (sym to) (i.goes_on h)) (inl less) (part_below left first.0))
      | inr (t, to, done) ↦ absurd (other (sound.distinct m right b (subst (λ z. At m z) to there) second.1))
    ]

    module _ (z : Option (List ℕ)) (target other : ℕ) (part : (x y : Term) → u ≡ par x z y → IsPart v.terms m x target × IsPart v.terms m y other) where
      left_goes : At n (par a z b) → (x y : Term) → u ≡ par x z y → other ≡ right → LeadsInternally v left target → IsInner v n m left target
      left_goes at x y to same goes =
          let (first_target, second_target) = part x y to in
          let stays : y ≡ b = one_item v.terms right y b (subst (λ k. At k y) same second_target.1) second.1 in
          let target_is : u ≡ par x z b = to ∙ ap (λ w. par x z w) stays in
          inner (par a z b) a x left target at first.1 first_target.1 (between l.Internal left target a x first.1 first_target.1 goes)
          (λ o h. subst (λ w. InternalStep v.processes (par a z b) o w) (sym target_is) (i.interleaves_left h)) (inl first_target.0) (part_below left first.0)

      pub par_found : At n (par a z b) → Goes v.processes (par a z b) u → (found : Finding) → IsInOperand v left target right other found →
          IsFinding v n m found
      par_found at step found (inl (is, same, goes)) = elim (of_par v.processes step) [
        | inl (t, to, inside) ↦ is_inner left target found is (left_goes at t b to same goes)
        | inr (t, to, inside) ↦ is_inner left target found is (left_goes at a t to same goes)
      ]
      par_found at step found (inr (is, never)) = elim (of_par v.processes step) [
        | inl (t, to, inside) ↦
            let (first_target, second_target) = part t b to in
            absurd (never (sound.distinct other right b second_target.1 second.1)
            (leads_as l.Internal left target a t first.1 first_target.1 inside))
        | inr (t, to, inside) ↦
            let (first_target, second_target) = part a t to in
            is_inner right other found is (inner (par a z b) b t right other at second.1 second_target.1 inside
            (λ o h. subst (λ w. InternalStep v.processes (par a z b) o w) (sym to) (i.interleaves_right h)) (inl second_target.0)
            (part_below right second.0))
      ]

  module _ (body target : ℕ) (b : Term) (first : IsPart v.terms n b body) where
    pub hide_found : (gates : List ℕ) → At n (hide gates b) → Goes v.processes (hide gates b) u →
        ((t : Term) → u ≡ hide gates t → IsPart v.terms m t target) → (found : Finding) → IsHiddenStep v gates body target found → IsFinding v n m found
    hide_found gates at step part found (inl (is, goes)) =
        let (t, to, inside) = of_hide v.processes step in
        let (less, last) = part t to in
        is_inner body target found is (inner (hide gates b) b t body target at first.1 last (between l.Internal body target b t first.1 last goes)
        (λ o h. subst (λ w. InternalStep v.processes (hide gates b) o w) (sym to) (i.shows h)) (inl less) (part_below body first.0))
    hide_found gates at step part found (inr (g, is, listed, goes)) =
        let (t, to, inside) = of_hide v.processes step in
        let (less, last) = part t to in
        is_made (origin.Hidden g) found is (made (hide gates b) (origin.Hidden g) at
        (subst (λ w. InternalStep v.processes (hide gates b) (origin.Hidden g) w) (sym to)
        (i.hides listed (between (l.Gate g) body target b t first.1 last goes))))

    -- the body of a hiding has an internal step to that of the target, or a step by a gate of the list
    pub hide_goes : (gates : List ℕ) → Goes v.processes (hide gates b) u → ((t : Term) → u ≡ hide gates t → IsPart v.terms m t target) →
        LeadsInternally v body target ⊎ ((g : ℕ) × In g gates × LeadsBy v (l.Gate g) body target)
    hide_goes gates step part =
        let (t, to, inside) = of_hide v.processes step in
        let (less, last) = part t to in
        elim inside [
          | inl goes ↦ inl (leads_as l.Internal body target b t first.1 last goes)
          | inr (g, listed, goes) ↦ inr (g, listed, leads_as (l.Gate g) body target b t first.1 last goes)
        ]

    pub relabel_found : (pairs : List (ℕ × ℕ)) → At n (relabel pairs b) → Goes v.processes (relabel pairs b) u →
        ((t : Term) → u ≡ relabel pairs t → IsPart v.terms m t target) → IsFinding v n m (finding.Inner body target)
    relabel_found pairs at step part =
        let (t, to, goes) = of_relabel v.processes step in
        let (less, last) = part t to in
        inner (relabel pairs b) b t body target at first.1 last goes
        (λ o h. subst (λ w. InternalStep v.processes (relabel pairs b) o w) (sym to) (i.relabels h)) (inl less) (part_below body first.0)

  -- the number of a body is below each bound of the bodies
  body_below : (p body : ℕ) (q : Process) → slice_get v.processes p ≡ Some q → At body q.body → (bound : ℕ) → HasBodiesBelow v bound → n < bound → body < bound
  body_below p body q listed at bound bodies below =
      let (k, less, located) = bodies p q listed in
      subst (λ j. j < bound) (sound.distinct k body q.body located at) less

  -- inside an internal step of a call is one from the body of its process to the part of the target
  pub call_found : (p : ℕ) (gates : List ℕ) (body target : ℕ) → At n (call p gates) → Goes v.processes (call p gates) u → IsBodyIn v p body →
      ((pairs : List (ℕ × ℕ)) (t : Term) → u ≡ relabel pairs t → IsPart v.terms m t target) → IsFinding v n m (finding.Inner body target)
  call_found p gates body target at step is_body part =
      let (q, listed, (t, to, goes)) = of_call v.processes step in
      let (less, last) = part (zip q.formals gates) t to in
      inner (call p gates) q.body t body target at (is_body q listed) last goes
      (λ o h. subst (λ w. InternalStep v.processes (call p gates) o w) (sym to) (i.calls listed (i.relabels h))) (inl less)
      (body_below p body q listed (is_body q listed))
