-- A place and its number in a set that keeps the order of insertion.
use Rattle.std.proofs.Common.{◌≡◌, ◌⊎◌, ℕ, zero, suc, List, [], ◌∷◌, ◌++◌, Some, Bool, true, false, if◌then◌else◌, ◌||◌, inl, inr, length, refl}
use Rattle.std.specs.Prelude.{slice_get}
use Rattle.std.specs.List.{list_any}
use Rattle.indexmap.specs.IndexSet.{insert_key}
use Rattle.lotos_pattern.specs.NfaStates.{Place}
use Rattle.lotos_pattern.specs.PlaceNumbering.{IsNumbered, added, present}
use Rattle.lotos_pattern.proofs.StepRows.{get_added}

module _ (eq : Place → Place → Bool) (same : (a b : Place) → eq a b ≡ true → a ≡ b) (itself : (a : Place) → eq a a ≡ true) (place : Place) where
  -- what passes the test nowhere is absent
  is_absent : (places : List Place) → list_any (eq place) places ≡ false → (n : ℕ) → slice_get places n ≡ Some place → ⊥
  is_absent [] e n h = cc
  is_absent (a ∷ places) e zero h = let q : a ≡ place = cc in let r = itself place in let e' : list_any (eq place) (place ∷ places) ≡ false = rw q at e in cc
  is_absent (a ∷ places) e (suc n) h = is_absent places (rest (eq place a) (list_any (eq place) places) e) n h
    where
      rest : (a b : Bool) → (a || b) ≡ false → b ≡ false
      rest true b e = cc
      rest false b e = e

  -- an absent place that has a number afterwards has the last
  at_the_end : (places : List Place) (n : ℕ) → ((k : ℕ) → slice_get places k ≡ Some place → ⊥) →
      (slice_get places n ≡ Some place) ⊎ ((n ≡ length places) × (place ≡ place)) → IsNumbered places (places ++ place ∷ []) place n
  at_the_end places n none (inl e) = absurd (none n e)
  at_the_end places n none (inr (e, f)) = rw e (added none)

  -- whether or not the place passes the test, it is numbered
  by_test : (places : List Place) (n : ℕ) (b : Bool) → list_any (eq place) places ≡ b → slice_get (if b then places else places ++ place ∷ []) n ≡ Some place →
      IsNumbered places (if b then places else places ++ place ∷ []) place n
  by_test places n true e h = present h
  by_test places n false e h = let none = is_absent places e in at_the_end places n none (get_added places place n place h)

  -- an insertion numbers the place
  pub numbered : (old new : List Place) (n : ℕ) → new ≡ insert_key eq old place →
      (q : Place) × (slice_get new n ≡ Some q) × (eq place q ≡ true) → IsNumbered old new place n
  numbered old new n e (q, h, t) =
      let is : place ≡ q = same place q t in
      let here : slice_get new n ≡ Some place = rw is h in
      rw e (by_test old n (list_any (eq place) old) refl (rw e at here))
