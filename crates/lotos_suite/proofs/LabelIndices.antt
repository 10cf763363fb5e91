-- Sequences with a first label, and the indices of labels and of sequences in order.
use Rattle.std.proofs.Common.{◌≡◌, ◌⊎◌, ◌<◌, ◌≤◌, ℕ, suc, List, ◌∷◌, Some, length, ap, arith, inl, inr, refl, subst, slice_get}
use Rattle.lotos_check.proofs.ListIndices.{one_item}
use Rattle.lotos_check.proofs.NameOrder.{below_irrefl, below_trans, nat_says, one_of_three}
use Rattle.lotos_automaton.proofs.OrderedLabels.{ascending_below}
use Rattle.lotos_listing.proofs.SequenceOrder.{before_irrefl, before_trans}
use Rattle.lotos_listing.specs.Order.{Before, Below, Label, UpTo}
use Rattle.lotos_listing.specs.PrefixWalk.{IsAscending}

-- the same first label
pub before_rest : (x : Label) (v w : List Label) → Before v w → Before (x ∷ v) (x ∷ w)
before_rest x v w (inl h) = inl (omega arith)
before_rest x v w (inr (e, h)) = inr (ap suc e, inr (refl, h))

-- a smaller first label
pub before_label : (x y : Label) (v w : List Label) → Below x y → length v ≡ length w → Before (x ∷ v) (y ∷ w)
before_label x y v w h e = inr (ap suc e, inl h)

-- the same first label
pub up_to_rest : (x : Label) (v w : List Label) → UpTo w v → UpTo (x ∷ w) (x ∷ v)
up_to_rest x v w (inl h) = inl (before_rest x v w h)
up_to_rest x v w (inr e) = inr (ap (λ u. x ∷ u) e)

-- of sequences of the same length the first labels decide, and then the rests
pub rest_before : (x y : Label) (v w : List Label) → length v ≡ length w → Before (x ∷ v) (y ∷ w) → Below x y ⊎ ((x ≡ y) × Before v w)
rest_before x y v w same (inl h) = absurd (omega arith)
rest_before x y v w same (inr (e, inl h)) = inl h
rest_before x y v w same (inr (e, inr (is, h))) = inr (is, inr (same, h))

-- what comes before is no longer
pub before_length : (v w : List Label) → UpTo w v → length v ≤ length w
before_length v w (inl (inl h)) = omega arith
before_length v w (inl (inr (e, h))) = omega arith
before_length v w (inr e) = let h : length v ≡ length w = ap length e in omega arith

-- of ascending labels a smaller one has a smaller index
pub index_below : (xs : List Label) → IsAscending xs → (i j : ℕ) (x y : Label) → slice_get xs i ≡ Some x → slice_get xs j ≡ Some y → Below x y → i < j
index_below xs up i j x y at_i at_j less = elim (one_of_three ◌<◌ i j _ (nat_says i j)) [
  | inl h ↦ h
  | inr (inl same) ↦ absurd (below_irrefl y (subst (λ v. Below v y) (one_item xs j x y (subst (λ n. slice_get xs n ≡ Some x) same at_i) at_j) less))
  | inr (inr h) ↦ absurd (below_irrefl x (below_trans x y x less (ascending_below xs up j i y x h at_j at_i)))
]

-- and each has one index
pub index_same : (xs : List Label) → IsAscending xs → (i j : ℕ) (x : Label) → slice_get xs i ≡ Some x → slice_get xs j ≡ Some x → i ≡ j
index_same xs up i j x at_i at_j = elim (one_of_three ◌<◌ i j _ (nat_says i j)) [
  | inl h ↦ absurd (below_irrefl x (ascending_below xs up i j x x h at_i at_j))
  | inr (inl same) ↦ same
  | inr (inr h) ↦ absurd (below_irrefl x (ascending_below xs up j i x x h at_j at_i))
]

-- each sequence comes before those after it
abbrev pub AreInOrder : List (List Label) → Type 0
AreInOrder sequences = (j k : ℕ) (v w : List Label) → j < k → slice_get sequences j ≡ Some v → slice_get sequences k ≡ Some w → Before v w

-- of sequences in order a smaller one has a smaller index
pub sequence_below : (xs : List (List Label)) → AreInOrder xs → (i j : ℕ) (v w : List Label) → slice_get xs i ≡ Some v → slice_get xs j ≡ Some w →
    Before v w → i < j
sequence_below xs up i j v w at_i at_j less = elim (one_of_three ◌<◌ i j _ (nat_says i j)) [
  | inl h ↦ h
  | inr (inl same) ↦ absurd (before_irrefl w (subst (λ u. Before u w) (one_item xs j v w (subst (λ n. slice_get xs n ≡ Some v) same at_i) at_j) less))
  | inr (inr h) ↦ absurd (before_irrefl v (before_trans v w v less (up j i w v h at_j at_i)))
]

-- and each has one index
pub sequence_same : (xs : List (List Label)) → AreInOrder xs → (i j : ℕ) (v : List Label) → slice_get xs i ≡ Some v → slice_get xs j ≡ Some v → i ≡ j
sequence_same xs up i j v at_i at_j = elim (one_of_three ◌<◌ i j _ (nat_says i j)) [
  | inl h ↦ absurd (before_irrefl v (up i j v v h at_i at_j))
  | inr (inl same) ↦ same
  | inr (inr h) ↦ absurd (before_irrefl v (up j i v v h at_j at_i))
]
