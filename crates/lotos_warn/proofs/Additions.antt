-- What is added step by step.
use Rattle.std.proofs.Common.{◌≡◌, ◌↔◌, ◌⊎◌, ℕ, ◌+◌, ◌<◌, ◌≤◌, List, [], ◌∷◌, sym, subst, inl, inr, arith}
use Rattle.std.proofs.lemmas.Bool.{cases_lt}
use Rattle.lotos_check.specs.NameLists.{In}
use Rattle.lotos_warn.specs.Additions.{Adds}

module _ {X : Type 0} where
  -- nothing is added
  pub adds_nothing : (xs : List X) (P : X → Type 0) → ((x : X) → P x → ⊥) → Adds xs xs P
  adds_nothing xs P none x = ((λ i. inl i), (λ h. elim h [ inl i ↦ i | inr p ↦ absurd (none x p) ]))

  -- what is added is the same under another property
  pub adds_as : (old new : List X) (P Q : X → Type 0) → ((x : X) → P x ↔ Q x) → Adds old new P → Adds old new Q
  adds_as old new P Q same added x = (
    (λ i. elim ((added x).0 i) [ inl j ↦ inl j | inr p ↦ inr ((same x).0 p) ]),
    (λ h. (added x).1 (elim h [ inl j ↦ inl j | inr q ↦ inr ((same x).1 q) ])),
  )

  -- what is added one after the other
  pub adds_both : (old mid new : List X) (P Q : X → Type 0) → Adds old mid P → Adds mid new Q → Adds old new (λ x. P x ⊎ Q x)
  adds_both old mid new P Q first second x = (
    (λ i. elim ((second x).0 i) [
      | inl j ↦ elim ((first x).0 j) [ inl k ↦ inl k | inr p ↦ inr (inl p) ]
      | inr q ↦ inr (inr q)
    ]),
    (λ h. (second x).1 (elim h [
      | inl k ↦ inl ((first x).1 (inl k))
      | inr (inl p) ↦ inl ((first x).1 (inr p))
      | inr (inr q) ↦ inr q
    ])),
  )

  -- what is added to the second list by the first is added to the first by the second
  pub adds_other : (first second new : List X) → Adds second new (λ x. In x first) → Adds first new (λ x. In x second)
  adds_other first second new added x = (
    (λ i. elim ((added x).0 i) [ inl j ↦ inr j | inr j ↦ inl j ]),
    (λ h. (added x).1 (elim h [ inl j ↦ inr j | inr j ↦ inl j ])),
  )

  -- what is added to an empty list is all of the list
  pub adds_alone : (old new : List X) (P : X → Type 0) → old ≡ [] → Adds old new P → (x : X) → In x new ↔ P x
  adds_alone old new P empty added x =
      let here : In x new ↔ (In x [] ⊎ P x) = subst (λ xs. In x new ↔ (In x xs ⊎ P x)) empty (added x) in
      ((λ i. elim (here.0 i) [ inl j ↦ absurd j | inr p ↦ p ]), (λ p. here.1 (inr p)))

  -- what is there now, and what is left to add, is what was there and all that is to be added
  abbrev pub AddsRest : List X → List X → (X → Type 0) → (X → Type 0) → Type 0
  AddsRest old now rest all = (x : X) → (In x now ⊎ rest x) ↔ (In x old ⊎ all x)

  -- at the start all is left
  pub adds_start : (old : List X) (all : X → Type 0) → AddsRest old old all all
  adds_start old all x = ((λ h. h), (λ h. h))

  -- in the end nothing is left
  pub adds_end : (old new : List X) (rest all : X → Type 0) → AddsRest old new rest all → ((x : X) → rest x → ⊥) → Adds old new all
  adds_end old new rest all added none x = (
    (λ i. (added x).0 (inl i)),
    (λ h. elim ((added x).1 h) [ inl j ↦ j | inr r ↦ absurd (none x r) ]),
  )

  -- all that is left is added
  pub adds_last : (old now new : List X) (rest all : X → Type 0) → AddsRest old now rest all → Adds now new rest → Adds old new all
  adds_last old now new rest all before added x = (
    (λ i. (before x).0 ((added x).0 i)),
    (λ h. (added x).1 ((before x).1 h)),
  )

  -- the first of what is left is added
  pub adds_next : (old now new : List X) (rest all P left : X → Type 0) → AddsRest old now rest all → Adds now new P →
      ((x : X) → rest x ↔ (P x ⊎ left x)) → AddsRest old new left all
  adds_next old now new rest all P left before added split x = (
    (λ h. (before x).0 (elim h [
      | inl i ↦ elim ((added x).0 i) [ inl j ↦ inl j | inr p ↦ inr ((split x).1 (inl p)) ]
      | inr l ↦ inr ((split x).1 (inr l))
    ])),
    (λ h. elim ((before x).1 h) [
      | inl j ↦ inl ((added x).1 (inl j))
      | inr r ↦ elim ((split x).0 r) [ inl p ↦ inl ((added x).1 (inr p)) | inr l ↦ inr l ]
    ]),
  )

-- the same in a loop over a list: `adds` says what is to be added for a list, and `one` for its first item
module _ {X Y : Type 0} (adds : List Y → X → Type 0) (one : Y → X → Type 0)
    (split : (y : Y) (ys : List Y) (x : X) → adds (y ∷ ys) x ↔ (one y x ⊎ adds ys x))
    (nothing : (x : X) → adds [] x → ⊥) where
  -- an item of the list is passed
  pub loop_next : (old now new : List X) (all : X → Type 0) (rest left : List Y) (y : Y) → rest ≡ y ∷ left →
      AddsRest old now (adds rest) all → Adds now new (one y) → AddsRest old new (adds left) all
  loop_next old now new all rest left y next before added =
      adds_next old now new (adds rest) all (one y) (adds left) before added
      (λ x. subst (λ ys. adds ys x ↔ (one y x ⊎ adds left x)) (sym next) (split y left x))

  -- all are passed
  pub loop_end : (old new : List X) (all : X → Type 0) (rest : List Y) → rest ≡ [] → AddsRest old new (adds rest) all → Adds old new all
  loop_end old new all rest none before =
      adds_end old new (adds rest) all before (λ x r. nothing x (subst (λ ys. adds ys x) none r))

-- the same in a loop over indices: `P` says what is to be added at an index
module _ {X : Type 0} (P : ℕ → X → Type 0) where
  -- what is to be added at the indices below this one is added
  abbrev pub AddsBelow : List X → List X → ℕ → Type 0
  AddsBelow old new index = Adds old new (λ x. (i : ℕ) × (i < index) × P i x)

  -- at the start there is none
  pub below_start : (old : List X) → AddsBelow old old 0
  below_start old = adds_nothing old (λ x. (i : ℕ) × (i < 0) × P i x) (λ x h. let below = h.1 in omega arith)

  -- an index is passed
  pub below_next : (old now new : List X) (index : ℕ) → AddsBelow old now index → Adds now new (P index) → AddsBelow old new (index + 1)
  below_next old now new index before added =
      adds_as old new (λ x. ((i : ℕ) × (i < index) × P i x) ⊎ P index x) (λ x. (i : ℕ) × (i < index + 1) × P i x)
      (λ x. (
        (λ h. elim h [ inl (i, below, p) ↦ (i, omega arith, p) | inr p ↦ (index, omega arith, p) ]),
        (λ (i, below, p). elim (cases_lt i index) [
          | inl less ↦ inl (i, less, p)
          | inr past ↦ (let last : i ≡ index = omega arith in inr (subst (λ j. P j x) last p))
        ]),
      ))
      (adds_both old now new (λ x. (i : ℕ) × (i < index) × P i x) (P index) before added)

  -- all are passed
  pub below_end : (old new : List X) (index : ℕ) → AddsBelow old new index → ((i : ℕ) (x : X) → P i x → i < index) → Adds old new (λ x. (i : ℕ) × P i x)
  below_end old new index before within =
      adds_as old new (λ x. (i : ℕ) × (i < index) × P i x) (λ x. (i : ℕ) × P i x)
      (λ x. ((λ (i, below, p). (i, p)), (λ (i, p). (i, within i x p, p)))) before
