-- The order of texts by their bytes is strict and total, and names in that order.
use Rattle.std.proofs.Common.{◌≡◌, ◌⊎◌, ◌∙◌, ℕ, ◌<◌, List, [], ◌∷◌, refl, sym, subst, inl, inr, arith, Ordering}
use Rattle.std.specs.declared.cmp.Ordering.TheVariants.{Less, Equal, Greater}
use Rattle.std.specs.Ordering.{MatchOrdering, nat_cmp, ordering_then}
use Rattle.std.specs.Cmp.Lexicographic.{slice_cmp}
use Rattle.std.proofs.lemmas.Bool.Decides.{nat_tests}
use Rattle.lotos_check.specs.NameLists.{Below, In, IsAscendingNames, Lex, Name}
use Rattle.lotos_check.proofs.AscendingLists.{first_least, one_list}

module _ {A : Type 0} (lt : A → A → Type 0) where
  -- lists of items in a strict order are in a strict order
  pub lex_irrefl : ((x : A) → lt x x → ⊥) → (s : List A) → Lex lt s s → ⊥
  lex_irrefl irr [] h = h
  lex_irrefl irr (x ∷ s) (inl h) = irr x h
  lex_irrefl irr (x ∷ s) (inr (e, h)) = lex_irrefl irr s h

  -- the order of lists is transitive if that of their items is
  pub lex_trans : ((x y z : A) → lt x y → lt y z → lt x z) → (a b c : List A) → Lex lt a b → Lex lt b c → Lex lt a c
  lex_trans tr [] [] c h g = absurd h
  lex_trans tr [] (y ∷ b) [] h g = absurd g
  lex_trans tr [] (y ∷ b) (z ∷ c) h g = tt
  lex_trans tr (x ∷ a) [] c h g = absurd h
  lex_trans tr (x ∷ a) (y ∷ b) [] h g = absurd g
  lex_trans tr (x ∷ a) (y ∷ b) (z ∷ c) (inl h) (inl g) = inl (tr x y z h g)
  lex_trans tr (x ∷ a) (y ∷ b) (z ∷ c) (inl h) (inr (e, g)) = inl (subst (λ v. lt x v) e h)
  lex_trans tr (x ∷ a) (y ∷ b) (z ∷ c) (inr (e, h)) (inl g) = inl (subst (λ v. lt v z) (sym e) g)
  lex_trans tr (x ∷ a) (y ∷ b) (z ∷ c) (inr (e, h)) (inr (f, g)) = inr (e ∙ f, lex_trans tr a b c h g)

-- `o` is the ordering of `x` and `y`
abbrev pub Says : {A : Type 0} → (A → A → Type 0) → A → A → Ordering → Type 0
Says lt x y o = MatchOrdering o (lt x y) (x ≡ y) (lt y x)

-- of two items one is smaller, or they are equal
pub one_of_three : {A : Type 0} (lt : A → A → Type 0) (x y : A) (o : Ordering) → Says lt x y o → lt x y ⊎ ((x ≡ y) ⊎ lt y x)
one_of_three lt x y Less h = inl h
one_of_three lt x y Equal h = inr (inl h)
one_of_three lt x y Greater h = inr (inr h)

module _ {A : Type 0} (lt : A → A → Type 0) (cmp : A → A → Ordering) (says : (x y : A) → Says lt x y (cmp x y)) where
  -- the ordering of the first items, or if they are equal that of the rests, is the ordering of two lists
  then_says : (x y : A) (s t : List A) (o q : Ordering) → Says lt x y o → Says (Lex lt) s t q → Says (Lex lt) (x ∷ s) (y ∷ t) (ordering_then o q)
  then_says x y s t Less q h k = inl h
  then_says x y s t Equal Less h k = inr (h, k)
  then_says x y s t Equal Equal h k = cc
  then_says x y s t Equal Greater h k = inr (sym h, k)
  then_says x y s t Greater q h k = inl h

  -- a lexicographic comparison decides the order of lists
  pub lex_says : (s t : List A) → Says (Lex lt) s t (slice_cmp cmp s t)
  lex_says [] [] = refl
  lex_says [] (y ∷ t) = tt
  lex_says (x ∷ s) [] = tt
  lex_says (x ∷ s) (y ∷ t) = then_says x y s t (cmp x y) (slice_cmp cmp s t) (says x y) (lex_says s t)

-- the comparison of numbers decides their order
pub nat_says : (x y : ℕ) → Says ◌<◌ x y (nat_cmp x y)
nat_says x y = grind (arith, nat_tests)

-- the comparison of texts by their bytes decides their order
pub text_says : (x y : Name) → Says Below x y (slice_cmp nat_cmp x y)
text_says = lex_says ◌<◌ nat_cmp nat_says

-- no text is below itself
pub below_irrefl : (x : Name) → Below x x → ⊥
below_irrefl = lex_irrefl ◌<◌ (λ n h. omega arith)

-- the order of texts by their bytes is transitive
pub below_trans : (x y z : Name) → Below x y → Below y z → Below x z
below_trans = lex_trans ◌<◌ (λ a b c h g. omega arith)

-- a text is not below an equal text
pub below_differ : (x y : Name) → Below x y → x ≡ y → ⊥
below_differ x y h e = below_irrefl y (subst (λ n. Below n y) e h)

-- texts compare as less exactly if the first is below
pub below_from_less : (x y : Name) → slice_cmp nat_cmp x y ≡ Less → Below x y
below_from_less x y e = subst (Says Below x y) e (text_says x y)

-- a text that is below another compares with it as less
pub less_from_below : (x y : Name) → Below x y → slice_cmp nat_cmp x y ≡ Less
less_from_below x y h = by (slice_cmp nat_cmp x y) (text_says x y)
  where
    by : (o : Ordering) → Says Below x y o → o ≡ Less
    by Less g = refl
    by Equal g = absurd (below_differ x y h g)
    by Greater g = absurd (below_irrefl x (below_trans x y x h g))

-- texts that compare as equal are the same
pub same_from_equal : (x y : Name) → slice_cmp nat_cmp x y ≡ Equal → x ≡ y
same_from_equal x y e = subst (Says Below x y) e (text_says x y)

-- ---- names in that order

-- the first name is below each of the others
pub first_below : (x : Name) (xs : List Name) → IsAscendingNames (x ∷ xs) → (y : Name) → In y xs → Below x y
first_below = first_least Below below_irrefl below_trans

-- lists of names in order without repeats are equal if they have the same members
pub one_set : (xs ys : List Name) → IsAscendingNames xs → IsAscendingNames ys → ((n : Name) → In n xs → In n ys) → ((n : Name) → In n ys → In n xs) → xs ≡ ys
one_set = one_list Below below_irrefl below_trans
