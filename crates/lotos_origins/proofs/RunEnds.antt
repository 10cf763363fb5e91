-- The ends of runs: terms without steps with labels of a set.
use Rattle.std.proofs.Common.{◌≡◌, ◌<◌, ◌+◌, ℕ, Bool, false, true, not, List, Some, arith, inl, inr, subst, sym, length}
use Rattle.std.specs.Prelude.{MatchBool, slice_get}
use Rattle.std.proofs.lemmas.Bool.{cases_eq}
use Rattle.std.proofs.lemmas.Option.{slice_get_within}
use Rattle.lotos_check.specs.NameLists.{In}
use Rattle.lotos_check.proofs.ListIndices.{get_some, in_get, one_item}
use Rattle.lotos_store.specs.Terms.{Process}
use Rattle.lotos_store.specs.declared.label.Label.{Label}
use Rattle.lotos_terms.specs.TableView.{AreSuccessors, Grows, TableView}
use Rattle.lotos_listing.specs.LabelFlags.{HasStepWith}
use Rattle.lotos_listing.specs.declared.label_flags.LabelFlags.{LabelFlags}
use Rattle.lotos_origins.specs.RunLayers.{HasNoStepWith, IsEndAt}

-- an end of a run in a table is one in a table that has grown, and the other way round
pub end_grows : (old new : TableView) → Grows old new → (set : LabelFlags) (n : ℕ) → IsEndAt old set n → IsEndAt new set n
end_grows old new grows set n (t, at, none) =
    (t, grows.terms n t at, subst (λ (ps : List Process). HasNoStepWith ps set t) (sym grows.processes) none)

-- an end of a run in a table that has grown is one in the old table, if this has a term with its number
pub end_before : (old new : TableView) → Grows old new → (set : LabelFlags) (n : ℕ) → n < length old.terms → IsEndAt new set n → IsEndAt old set n
end_before old new grows set n known (t, at, none) =
    let (s, was) = get_some old.terms n known in
    let same : t ≡ s = one_item new.terms n t s at (grows.terms n s was) in
    (s, was, subst (λ v. HasNoStepWith old.processes set v) same (subst (λ (ps : List Process). HasNoStepWith ps set t) grows.processes none))

module _ (v : TableView) (n : ℕ) (known : n < length v.terms) (list : List (Label × ℕ)) (steps : AreSuccessors v n list) (set : LabelFlags) where
  -- a term is an end if none of its listed steps has a label of the set
  no_listed : (HasStepWith set list → ⊥) → IsEndAt v set n
  no_listed none =
      let (t, at) = get_some v.terms n known in
      (t, at, λ k u step has. let (m, there, listed) = steps.all t at k u step in none ((k, m), listed, has))

  -- a term is no end if one of its listed steps has a label of the set
  some_listed : HasStepWith set list → IsEndAt v set n → ⊥
  some_listed ((k, m), listed, has) (t, at, none) =
      let (u, there, step) = steps.only t at k m listed in
      none k u step has

  -- whether a term is an end is seen in its listed steps
  pub ends_if_none : (b : Bool) → MatchBool b (HasStepWith set list) (HasStepWith set list → ⊥) →
      MatchBool (not b) (IsEndAt v set n) (IsEndAt v set n → ⊥)
  ends_if_none true some = some_listed some
  ends_if_none false none = no_listed none

-- if the first terms of a list are no ends, an end is further on
abbrev pub HasNoEndBelow : TableView → LabelFlags → List ℕ → ℕ → Type 0
HasNoEndBelow v set terms n = (j x : ℕ) → j < n → slice_get terms j ≡ Some x → IsEndAt v set x → ⊥

module _ (first now : TableView) (set : LabelFlags) (terms : List ℕ) where
  -- if neither the first `n` terms of the list are ends nor the next one is, the first `n + 1` are none
  pub no_end_more : (n y : ℕ) → Grows first now → slice_get terms n ≡ Some y → (IsEndAt now set y → ⊥) → HasNoEndBelow first set terms n →
      HasNoEndBelow first set terms (n + 1)
  no_end_more n y grows at none so_far = λ j x less there is. elim (cases_eq j n) [
    | inl here ↦
        let same : x ≡ y = one_item terms n x y (subst (λ i. slice_get terms i ≡ Some x) here there) at in
        none (subst (λ z. IsEndAt now set z) same (end_grows first now grows set x is))
    | inr apart ↦ so_far j x (omega (arith, less, apart)) there is
  ]

  -- if no term at an index below the length of the list is an end, no term of the list is
  pub no_end_at_all : (n : ℕ) → n ≡ length terms → HasNoEndBelow first set terms n → (x : ℕ) × In x terms × IsEndAt first set x → ⊥
  no_end_at_all n end so_far (x, there, is) =
      let (j, at) = in_get terms x there in
      so_far j x (omega (arith, end, slice_get_within terms j x at)) at is
