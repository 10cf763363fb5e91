-- What one more rank changes: the ranks stay consistent, and one process fewer has none.
use Rattle.std.proofs.Common.{◌≡◌, ℕ, ◌+◌, ◌<◌, ◌⊎◌, zero, suc, List, [], ◌∷◌, Option, Some, None, refl, ap, inl, inr, arith, length}
use Rattle.std.specs.Prelude.{slice_get, slice_set}
use Rattle.lotos_check.specs.RankingSteps.{ListsCall, AreConsistentRanks, count_unranked}

-- the numbers after two numbers are the same or not, if the two are
same_later : (k p : ℕ) → (k ≡ p) ⊎ (k ≡ p → ⊥) → (suc k ≡ suc p) ⊎ (suc k ≡ suc p → ⊥)
same_later k p (inl e) = inl (ap suc e)
same_later k p (inr n) = inr (λ e. n (omega (arith, e)))

-- two numbers are the same or not
same_or : (k p : ℕ) → (k ≡ p) ⊎ (k ≡ p → ⊥)
same_or zero zero = inl refl
same_or zero (suc p) = inr (λ e. omega arith)
same_or (suc k) zero = inr (λ e. omega arith)
same_or (suc k) (suc p) = same_later k p (same_or k p)

-- an item that is set at an index of a list is there
get_set : {X : Type 0} (xs : List X) (p : ℕ) (v x : X) → slice_get xs p ≡ Some x → slice_get (slice_set xs p v) p ≡ Some v
get_set [] p v x e = cc
get_set (y ∷ xs) zero v x e = refl
get_set (y ∷ xs) (suc p) v x e = get_set xs p v x e

-- to set an item of a list changes no item at another index
get_set_other : {X : Type 0} (xs : List X) (p k : ℕ) (v : X) → (k ≡ p → ⊥) → slice_get (slice_set xs p v) k ≡ slice_get xs k
get_set_other [] p k v n = refl
get_set_other (y ∷ xs) zero zero v n = absurd (n refl)
get_set_other (y ∷ xs) zero (suc k) v n = refl
get_set_other (y ∷ xs) (suc p) zero v n = refl
get_set_other (y ∷ xs) (suc p) (suc k) v n = get_set_other xs p k v (λ e. n (ap suc e))

-- to set an item of a list does not change its length
length_set : {X : Type 0} (xs : List X) (p : ℕ) (v : X) → length (slice_set xs p v) ≡ length xs
length_set [] p v = refl
length_set (y ∷ xs) zero v = refl
length_set (y ∷ xs) (suc p) v = ap suc (length_set xs p v)

-- if a process without a rank gets one, one process fewer has none
waiting_set : (ranks : List (Option ℕ)) (p r : ℕ) → slice_get ranks p ≡ Some None →
    count_unranked (slice_set ranks p (Some r)) + 1 ≡ count_unranked ranks
waiting_set [] p r e = cc
waiting_set (None ∷ ranks) zero r e = refl
waiting_set (Some s ∷ ranks) zero r e = cc
waiting_set (None ∷ ranks) (suc p) r e = let later = waiting_set ranks p r e in omega arith
waiting_set (Some s ∷ ranks) (suc p) r e = waiting_set ranks p r e

-- a process that calls only ranked ones gets the next rank, and the ranks stay consistent
module _ (edges : List (List ℕ)) (ranks : List (Option ℕ)) (next p : ℕ) (given : AreConsistentRanks edges ranks next)
    (waits : slice_get ranks p ≡ Some None)
    (calls : (q : ℕ) → ListsCall edges p q → (s : ℕ) × (slice_get ranks q ≡ Some (Some s))) where
  abbrev numbered : List (Option ℕ)
  numbered = slice_set ranks p (Some next)

  -- a process that had a rank keeps it
  kept : (q s : ℕ) → slice_get ranks q ≡ Some (Some s) → slice_get numbered q ≡ Some (Some s)
  kept q s e = rw (get_set_other ranks p q (Some next) (λ h. let same : slice_get ranks p ≡ Some (Some s) = rw (← h) e in cc)) e

  -- each of the new ranks is smaller than `next + 1`
  below_at : (k r : ℕ) → (k ≡ p) ⊎ (k ≡ p → ⊥) → slice_get numbered k ≡ Some (Some r) → r < next + 1
  below_at k r (inl h) e =
      let new = get_set ranks p (Some next) None waits in
      let read : slice_get numbered p ≡ Some (Some r) = rw h at e in
      let same : next ≡ r = cc in
      omega arith
  below_at k r (inr h) e =
      let other = get_set_other ranks p k (Some next) h in
      let read : slice_get ranks k ≡ Some (Some r) = cc in
      let bound = given.below k r read in
      omega arith

  -- by the new ranks, if a process that has a rank calls another, the other has a smaller rank
  falls_at : (k q r : ℕ) → (k ≡ p) ⊎ (k ≡ p → ⊥) → ListsCall edges k q → slice_get numbered k ≡ Some (Some r) →
      (s : ℕ) × (slice_get numbered q ≡ Some (Some s)) × (s < r)
  falls_at k q r (inl h) lists e =
      let new = get_set ranks p (Some next) None waits in
      let read : slice_get numbered p ≡ Some (Some r) = rw h at e in
      let same : next ≡ r = cc in
      let of_p : ListsCall edges p q = rw h at lists in
      let called = calls q of_p in
      let bound = given.below q called.0 called.1 in
      (called.0, kept q called.0 called.1, omega arith)
  falls_at k q r (inr h) lists e =
      let other = get_set_other ranks p k (Some next) h in
      let read : slice_get ranks k ≡ Some (Some r) = cc in
      let called = given.falls k q r lists read in
      (called.0, kept q called.0 called.1, called.2)

  -- the new ranks are consistent, and the next one is `next + 1`
  pub ordered_set : AreConsistentRanks edges (slice_set ranks p (Some next)) (next + 1)
  ordered_set = record {
    sized = rw (length_set ranks p (Some next)) given.sized;
    counted = let fewer = waiting_set ranks p next waits in let count = given.counted in omega arith;
    below = λ k r e. below_at k r (same_or k p) e;
    falls = λ k q r lists e. falls_at k q r (same_or k p) lists e;
  }
