-- The members of a list, by index.
use Rattle.std.proofs.Common.{◌≡◌, ◌⊎◌, ◌↔◌, ◌<◌, ◌++◌, ◌∙◌, ℕ, zero, suc, List, [], ◌∷◌, Some, length, get_or, map, refl, ap, sym, inl, inr, arith}
use Rattle.std.specs.Prelude.{Contains, slice_get}
use Rattle.std.specs.List.Sorted.{IsPermutation}
use Rattle.std.specs.Option.{option_map}
use Rattle.std.proofs.lemmas.List.Sorted.{Contains-permutation, IsPermutation-sym}
use Rattle.std.proofs.lemmas.Option.{get_or_from_slice_get, same_Some, slice_get-get_or, slice_get-map, slice_get_read, slice_get_within}
use Rattle.lotos_check.specs.NameLists.{In}

module _ {X : Type 0} where
  -- an item that a list has at an index is in it
  pub contains_in : (xs : List X) (x : X) → Contains xs x → In x xs
  contains_in [] x (k, h, e) = absurd (omega arith)
  contains_in (y ∷ ys) x (zero, h, e) = inl e
  contains_in (y ∷ ys) x (suc k, h, e) = inr (contains_in ys x (k, omega arith, e))

  -- an item that is in a list has an index
  pub in_contains : (xs : List X) (x : X) → In x xs → Contains xs x
  in_contains [] x h = absurd h
  in_contains (y ∷ ys) x (inl e) = (0, omega arith, e)
  in_contains (y ∷ ys) x (inr h) = let r = in_contains ys x h in (suc r.0, omega arith, r.2)

  -- an item that is read at an index of a list is in it
  pub get_in : (xs : List X) (k : ℕ) (x : X) → slice_get xs k ≡ Some x → In x xs
  get_in xs k x e = contains_in xs x (k, slice_get_within xs k x e, get_or_from_slice_get xs k x x e)

  -- an item that is in a list is read at some index of it
  pub in_get : (xs : List X) (x : X) → In x xs → (k : ℕ) × (slice_get xs k ≡ Some x)
  in_get xs x h = let r = in_contains xs x h in (r.0, slice_get_read xs (length xs) r.0 x refl r.1 (sym r.2))

  -- a permutation has the same members
  pub in_permuted : (xs ys : List X) → IsPermutation xs ys → (x : X) → In x ys ↔ In x xs
  in_permuted xs ys moved x = (
    λ h. contains_in xs x (Contains-permutation ys xs x (IsPermutation-sym xs ys moved) (in_contains ys x h)),
    λ h. contains_in ys x (Contains-permutation xs ys x moved (in_contains xs x h)),
  )

  -- what is read within a list is in it
  pub in_read : (xs : List X) (k : ℕ) (d : X) → k < length xs → In (get_or xs k d) xs
  in_read xs k d h = get_in xs k (get_or xs k d) (slice_get-get_or xs k d h)

  -- what holds of each item that is read in a list holds of each that is in it
  pub each_in : (P : X → Type 0) (xs : List X) (d : X) → ((k : ℕ) → k < length xs → P (get_or xs k d)) → (x : X) → In x xs → P x
  each_in P xs d h x i =
      let at = in_get xs x i in
      let read = h at.0 (slice_get_within xs at.0 x at.1) in
      rw (← get_or_from_slice_get xs at.0 x d at.1) read

  -- there is one item at an index
  pub one_item : (xs : List X) (k : ℕ) (x y : X) → slice_get xs k ≡ Some x → slice_get xs k ≡ Some y → x ≡ y
  one_item xs k x y h g = same_Some x y (sym h ∙ g)

  -- an index below the length has an item
  pub get_some : (xs : List X) (k : ℕ) → k < length xs → (x : X) × (slice_get xs k ≡ Some x)
  get_some [] k h = absurd (omega arith)
  get_some (x ∷ xs) zero h = (x, refl)
  get_some (x ∷ xs) (suc k) h = get_some xs k (omega arith)

  -- the items of a list keep their indices if others are put after them
  pub get_front : (xs ys : List X) (k : ℕ) (x : X) → slice_get xs k ≡ Some x → slice_get (xs ++ ys) k ≡ Some x
  get_front [] ys k x e = cc
  get_front (z ∷ xs) ys zero x e = e
  get_front (z ∷ xs) ys (suc k) x e = get_front xs ys k x e

  -- an item that is put at the end has the length as its index
  pub get_last : (xs : List X) (x : X) → slice_get (xs ++ x ∷ []) (length xs) ≡ Some x
  get_last [] x = refl
  get_last (z ∷ xs) x = get_last xs x

  -- an item of a list with one more at its end is one of the others or that one
  pub get_added : (xs : List X) (x : X) (k : ℕ) (y : X) → slice_get (xs ++ x ∷ []) k ≡ Some y →
      (slice_get xs k ≡ Some y) ⊎ ((k ≡ length xs) × (x ≡ y))
  get_added [] x zero y e = inr (refl, cc)
  get_added [] x (suc k) y e = cc
  get_added (z ∷ xs) x zero y e = inl e
  get_added (z ∷ xs) x (suc k) y e = elim (get_added xs x k y e) [ inl i ↦ inl i | inr i ↦ inr (ap suc i.0, i.1) ]

-- what is read within a list is mapped there
pub map_read : {X Y : Type 0} (f : X → Y) (xs : List X) (k : ℕ) (x : X) → k < length xs → x ≡ get_or xs k x → slice_get (map f xs) k ≡ Some (f x)
map_read f xs k x h e = slice_get-map f xs k ∙ ap (option_map f) (slice_get_read xs (length xs) k x refl h e)

-- an item of a mapped list is the image of the item with that index
pub get_map : {X Y : Type 0} (f : X → Y) (xs : List X) (k : ℕ) (y : Y) → slice_get (map f xs) k ≡ Some y → (x : X) × (slice_get xs k ≡ Some x) × (f x ≡ y)
get_map f [] k y h = cc
get_map f (x ∷ xs) zero y h = (x, refl, cc)
get_map f (x ∷ xs) (suc k) y h = get_map f xs k y h
