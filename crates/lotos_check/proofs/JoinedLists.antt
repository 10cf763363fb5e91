-- The members of two lists joined.
use Rattle.std.proofs.Common.{◌≡◌, ◌⊎◌, List, [], ◌∷◌, ◌++◌, refl, inl, inr}
use Rattle.lotos_check.specs.NameLists.{In}

module _ {X : Type 0} (x : X) where
  -- a member of the first list is a member of both together
  pub in_front : (xs ys : List X) → In x xs → In x (xs ++ ys)
  in_front [] ys i = absurd i
  in_front (z ∷ zs) ys (inl e) = inl e
  in_front (z ∷ zs) ys (inr i) = inr (in_front zs ys i)

  -- a member of the second list is a member of both together
  pub in_back : (xs ys : List X) → In x ys → In x (xs ++ ys)
  in_back [] ys i = i
  in_back (z ∷ zs) ys i = inr (in_back zs ys i)

  -- a member of both together is a member of one
  pub in_either : (xs ys : List X) → In x (xs ++ ys) → In x xs ⊎ In x ys
  in_either [] ys i = inr i
  in_either (z ∷ zs) ys (inl e) = inl (inl e)
  in_either (z ∷ zs) ys (inr i) = elim (in_either zs ys i) [ inl j ↦ inl (inr j) | inr j ↦ inr j ]

  -- an item is a member of a list that has it at its end
  pub in_last : (xs : List X) → In x (xs ++ x ∷ [])
  in_last xs = in_back xs (x ∷ []) (inl refl)

  -- a member of a list with one more at its end was one before, or is that one
  pub in_added : (xs : List X) (y : X) → In x (xs ++ y ∷ []) → In x xs ⊎ (y ≡ x)
  in_added [] y (inl e) = inr e
  in_added [] y (inr i) = absurd i
  in_added (z ∷ zs) y (inl e) = inl (inl e)
  in_added (z ∷ zs) y (inr i) = elim (in_added zs y i) [ inl j ↦ inl (inr j) | inr e ↦ inr e ]

-- what holds of each member of a list, and of one that is put after them, holds of each member of both together
pub each_added : {X : Type 0} (P : X → Type 0) (xs : List X) (y : X) → ((x : X) → In x xs → P x) → P y → (x : X) →
    In x (xs ++ y ∷ []) → P x
each_added P xs y all last x i = elim (in_added x xs y i) [ inl j ↦ all x j | inr e ↦ rw (← e) last ]
