-- The members of lists that are made item by item from others.
use Rattle.std.proofs.Common.{◌≡◌, List, [], ◌∷◌, refl, map, inl, inr, ap}
use Rattle.std.specs.Prelude.{flat_map, zip}
use Rattle.lotos_check.specs.NameLists.{In}
use Rattle.lotos_check.proofs.JoinedLists.{in_back, in_either, in_front}

-- the image of a member is in the mapped list
pub in_map : {X Y : Type 0} (f : X → Y) (x : X) (xs : List X) → In x xs → In (f x) (map f xs)
in_map f x [] i = absurd i
in_map f x (z ∷ zs) (inl e) = inl (ap f e)
in_map f x (z ∷ zs) (inr i) = inr (in_map f x zs i)

-- a member of the mapped list is the image of a member
pub in_map_from : {X Y : Type 0} (f : X → Y) (y : Y) (xs : List X) → In y (map f xs) → (x : X) × (In x xs) × (f x ≡ y)
in_map_from f y [] i = absurd i
in_map_from f y (x ∷ xs) (inl e) = (x, inl refl, e)
in_map_from f y (x ∷ xs) (inr i) = let r = in_map_from f y xs i in (r.0, inr r.1, r.2)

-- what is in the list of one item is in the lists of all items together
pub in_flat : {X Y : Type 0} (f : X → List Y) (x : X) (y : Y) (xs : List X) → In x xs → In y (f x) → In y (flat_map f xs)
in_flat f x y [] i j = absurd i
in_flat f x y (z ∷ zs) (inl e) j = in_front y (f z) (flat_map f zs) (rw e j)
in_flat f x y (z ∷ zs) (inr i) j = in_back y (f z) (flat_map f zs) (in_flat f x y zs i j)

-- what is in the lists of all items together is in the list of one item
pub in_flat_from : {X Y : Type 0} (f : X → List Y) (y : Y) (xs : List X) → In y (flat_map f xs) → (x : X) × (In x xs) × (In y (f x))
in_flat_from f y [] i = absurd i
in_flat_from f y (x ∷ xs) i =
    elim (in_either y (f x) (flat_map f xs) i) [
      | inl j ↦ (x, inl refl, j)
      | inr j ↦ let r = in_flat_from f y xs j in (r.0, inr r.1, r.2)
    ]

-- the halves of a pair of zipped lists are in the lists
pub in_zipped : {X Y : Type 0} (p : X × Y) (xs : List X) (ys : List Y) → In p (zip xs ys) → In p.0 xs × In p.1 ys
in_zipped p [] ys i = absurd i
in_zipped p (x ∷ xs) [] i = absurd i
in_zipped p (x ∷ xs) (y ∷ ys) (inl e) = (inl (ap (λ q. q.0) e), inl (ap (λ q. q.1) e))
in_zipped p (x ∷ xs) (y ∷ ys) (inr i) = let r = in_zipped p xs ys i in (inr r.0, inr r.1)
