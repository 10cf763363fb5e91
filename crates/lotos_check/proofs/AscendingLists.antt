-- Lists whose items ascend.
use Rattle.std.proofs.Common.{◌≡◌, ◌⊎◌, ◌∙◌, ◌<◌, ℕ, List, [], ◌∷◌, refl, sym, subst, inl, inr, arith}
use Rattle.lotos_check.specs.Guard.{IsAscending}
use Rattle.lotos_check.specs.NameLists.{In, IsAscendingBy, more, none, one}

module _ {A : Type 0} (lt : A → A → Type 0) where
  -- what follows the first item ascends too
  pub rest_ascends : (x : A) (xs : List A) → IsAscendingBy lt (x ∷ xs) → IsAscendingBy lt xs
  rest_ascends x [] one = none
  rest_ascends x (y ∷ ys) (more b a) = a

  -- an item that is smaller than all of an ascending list can be put first
  pub put_first : (x : A) (ys : List A) → ((y : A) → In y ys → lt x y) → IsAscendingBy lt ys → IsAscendingBy lt (x ∷ ys)
  put_first x [] smaller a = one
  put_first x (y ∷ ys) smaller a = more (smaller y (inl refl)) a

-- of a strict order
module _ {A : Type 0} (lt : A → A → Type 0) (irrefl : (x : A) → lt x x → ⊥) (trans : (x y z : A) → lt x y → lt y z → lt x z) where
  -- the first item is smaller than each of the others
  pub first_least : (x : A) (xs : List A) → IsAscendingBy lt (x ∷ xs) → (y : A) → In y xs → lt x y
  first_least x [] a y i = absurd i
  first_least x (z ∷ zs) (more b a) y (inl e) = subst (lt x) e b
  first_least x (z ∷ zs) (more b a) y (inr i) = trans x z y b (first_least z zs a y i)

  -- two ascending lists have the same first item if each has the first item of the other
  same_first : (x y : A) (xs ys : List A) → IsAscendingBy lt (x ∷ xs) → IsAscendingBy lt (y ∷ ys) → (x ≡ y) ⊎ In y xs → (y ≡ x) ⊎ In x ys → x ≡ y
  same_first x y xs ys a b (inl e) j = e
  same_first x y xs ys a b (inr i) (inl e) = sym e
  same_first x y xs ys a b (inr i) (inr j) = absurd (irrefl x (trans x y x (first_least x xs a y i) (first_least y ys b x j)))

  -- an item after the first of an ascending list is after the same first item of another list, if it is in that list
  in_rest : (x y n : A) (xs ys : List A) → IsAscendingBy lt (x ∷ xs) → x ≡ y → (In n (x ∷ xs) → In n (y ∷ ys)) → In n xs → In n ys
  in_rest x y n xs ys a e to i = elim (to (inr i)) [
    | inl f ↦ absurd (irrefl x (subst (lt x) (sym (e ∙ f)) (first_least x xs a n i)))
    | inr j ↦ j
  ]

  -- ascending lists with the same members are equal
  pub one_list : (xs ys : List A) → IsAscendingBy lt xs → IsAscendingBy lt ys → ((n : A) → In n xs → In n ys) → ((n : A) → In n ys → In n xs) → xs ≡ ys
  one_list [] [] a b to from = refl
  one_list [] (y ∷ ys) a b to from = absurd (from y (inl refl))
  one_list (x ∷ xs) [] a b to from = absurd (to x (inl refl))
  one_list (x ∷ xs) (y ∷ ys) a b to from =
      let e = same_first x y xs ys a b (from y (inl refl)) (to x (inl refl)) in
      let r = one_list xs ys (rest_ascends lt x xs a) (rest_ascends lt y ys b)
      (λ n. in_rest x y n xs ys a e (to n)) (λ n. in_rest y x n ys xs b (sym e) (from n)) in
      cc

-- of numbers
pub first_number_least : (x : ℕ) (xs : List ℕ) → IsAscending (x ∷ xs) → (y : ℕ) → In y xs → x < y
first_number_least = first_least ◌<◌ (λ n h. omega arith) (λ a b c h g. omega arith)

-- ascending lists of the same numbers are equal
pub one_list_of_numbers : (xs ys : List ℕ) → IsAscending xs → IsAscending ys → ((n : ℕ) → In n xs → In n ys) → ((n : ℕ) → In n ys → In n xs) → xs ≡ ys
one_list_of_numbers = one_list ◌<◌ (λ n h. omega arith) (λ a b c h g. omega arith)
