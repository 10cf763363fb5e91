-- Rests that are added one by one.
use Rattle.std.proofs.Common.{◌≡◌, ◌⊎◌, ◌∙◌, ◌<◌, ◌+◌, ◌++◌, ℕ, List, [], ◌∷◌, Option, Some, length, ap, arith, inl, inr, subst, sym, slice_get, get_or}
use Rattle.std.proofs.lemmas.Bool.{cases_eq}
use Rattle.std.proofs.lemmas.Option.{same_Some, slice_get-get_or}
use Rattle.lotos_check.proofs.JoinedLists.{in_added, in_front, in_last}
use Rattle.lotos_check.proofs.ListIndices.{get_in, one_item}
use Rattle.lotos_check.specs.NameLists.{In}
use Rattle.lotos_suite.specs.SuitePrefixes.{HasAddedRest, step_of}
use Rattle.lotos_suite.specs.declared.apart_sequences.ApartStep.{ApartStep}

module _ (steps : List (Option ApartStep)) (label k : ℕ) (old new : List ℕ) (added : HasAddedRest steps label k old new) where
  -- what is there was there, or is the rest of the sequence
  pub added_sound : (r : ℕ) → In r new → In r old ⊎ (slice_get steps k ≡ Some (Some (step_of label r)))
  added_sound r i = by added
    where
      by : HasAddedRest steps label k old new → In r old ⊎ (slice_get steps k ≡ Some (Some (step_of label r)))
      by (inl (rest, at, is)) = elim (in_added r old rest (subst (In r) is i)) [
        | inl before ↦ inl before
        | inr same ↦ inr (at ∙ ap (λ z. Some (Some (step_of label z))) same)
      ]
      by (inr (other, is)) = inl (subst (In r) is i)

  -- what was there is there
  pub added_kept : (r : ℕ) → In r old → In r new
  added_kept r i = elim added [
    | inl (rest, at, is) ↦ subst (In r) (sym is) (in_front r old (rest ∷ []) i)
    | inr (other, is) ↦ subst (In r) (sym is) i
  ]

  -- the rest is there
  pub added_here : (r : ℕ) → slice_get steps k ≡ Some (Some (step_of label r)) → In r new
  added_here r at = by added
    where
      by : HasAddedRest steps label k old new → In r new
      by (inl (rest, here, is)) =
          let same : step_of label rest ≡ step_of label r = same_Some (step_of label rest) (step_of label r)
          (same_Some (Some (step_of label rest)) (Some (step_of label r)) (sym here ∙ at)) in
          let equal : rest ≡ r = ap (λ (z : ApartStep). z.rest) same in
          subst (In r) (sym is) (subst (λ z. In z (old ++ rest ∷ [])) equal (in_last rest old))
      by (inr (other, is)) = absurd (other r at)

-- ---- over numbers

-- the rests of the first so many of the numbers
pub record AreSomeOf (steps : List (Option ApartStep)) (label : ℕ) (numbers : List ℕ) (count : ℕ) (rests : List ℕ) : Type 0 where
  pub sound : (r : ℕ) → In r rests → (k : ℕ) × In k numbers × (slice_get steps k ≡ Some (Some (step_of label r)))
  pub all : (n k r : ℕ) → n < count → slice_get numbers n ≡ Some k → slice_get steps k ≡ Some (Some (step_of label r)) → In r rests

-- one more
pub some_more : (steps : List (Option ApartStep)) (label : ℕ) (numbers : List ℕ) (count : ℕ) (old new : List ℕ) → AreSomeOf steps label numbers count old →
    (k : ℕ) → slice_get numbers count ≡ Some k → HasAddedRest steps label k old new → AreSomeOf steps label numbers (count + 1) new
some_more steps label numbers count old new are k at added = record {
  sound = λ r i. elim (added_sound steps label k old new added r i) [
    | inl before ↦ are.sound r before
    | inr here ↦ (k, get_in numbers count k at, here)
  ];
  all = λ n j r less here step. elim (cases_eq n count) [
    | inl same ↦
        let e : j ≡ k = one_item numbers count j k (subst (λ z. slice_get numbers z ≡ Some j) same here) at in
        added_here steps label k old new added r (subst (λ z. slice_get steps z ≡ Some (Some (step_of label r))) e step)
    | inr other ↦ added_kept steps label k old new added r (are.all n j r (grind arith) here step)
  ];
}

-- the rests of the first so many of all, and others
pub record AreSomeAnd (steps : List (Option ApartStep)) (label : ℕ) (others : List ℕ) (count : ℕ) (rests : List ℕ) : Type 0 where
  pub sound : (r : ℕ) → In r rests → In r others ⊎ ((k : ℕ) × (slice_get steps k ≡ Some (Some (step_of label r))))
  pub all : (k r : ℕ) → k < count → slice_get steps k ≡ Some (Some (step_of label r)) → In r rests
  pub kept : (r : ℕ) → In r others → In r rests

-- one more
pub and_more : (steps : List (Option ApartStep)) (label : ℕ) (others : List ℕ) (count : ℕ) (old new : List ℕ) → AreSomeAnd steps label others count old →
    HasAddedRest steps label count old new → AreSomeAnd steps label others (count + 1) new
and_more steps label others count old new are added = record {
  sound = λ r i. elim (added_sound steps label count old new added r i) [
    | inl before ↦ are.sound r before
    | inr here ↦ inr (count, here)
  ];
  all = λ k r less step. elim (cases_eq k count) [
    | inl same ↦ added_here steps label count old new added r (subst (λ z. slice_get steps z ≡ Some (Some (step_of label r))) same step)
    | inr other ↦ added_kept steps label count old new added r (are.all k r (grind arith) step)
  ];
  kept = λ r i. added_kept steps label count old new added r (are.kept r i);
}

-- a step that is read, and its rest
pub read_added : (steps : List (Option ApartStep)) (label k : ℕ) (d : Option ApartStep) (old new : List ℕ) (r : ℕ) → k < length steps →
    get_or steps k d ≡ Some (step_of label r) → new ≡ old ++ r ∷ [] → HasAddedRest steps label k old new
read_added steps label k d old new r less e is = inl (r, slice_get-get_or steps k d less ∙ ap (λ z. Some z) e, is)

-- and one that does not begin with the label
pub read_other : (steps : List (Option ApartStep)) (label k : ℕ) (d : Option ApartStep) (old new : List ℕ) → k < length steps →
    ((r : ℕ) → get_or steps k d ≡ Some (step_of label r) → ⊥) → new ≡ old → HasAddedRest steps label k old new
read_other steps label k d old new less never is =
    inr (λ r at. never r (same_Some (get_or steps k d) (Some (step_of label r)) (sym (slice_get-get_or steps k d less) ∙ at)), is)
