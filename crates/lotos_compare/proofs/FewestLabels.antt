-- Sets of labels, one within another, and least ones among those that one of two systems may offer.
use Rattle.std.proofs.Common.{◌≡◌, ◌⊎◌, ◌<◌, ◌≤◌, ℕ, zero, suc, Bool, true, false, List, [], ◌∷◌, length, refl, subst, sym, inl, inr, arith, ◌∙◌}
use Rattle.std.specs.Prelude.{All}
use Rattle.std.specs.List.{list_any}
use Rattle.std.specs.Str.{bytes_eq}
use Rattle.lotos_check.specs.NameLists.{Below, In}
use Rattle.lotos_check.proofs.ListIndices.{each_in}
use Rattle.lotos_check.proofs.NameOrder.{below_irrefl, below_trans}
use Rattle.lotos_check.proofs.NameTests.{listed, not_listed}
use Rattle.lotos_listing.specs.Order.{Label}
use Rattle.lotos_listing.specs.PrefixWalk.{IsAscending}
use Rattle.lotos_compare.specs.Differences.{AreAmong, Observations, OffersFewest, OffersSoFew}

-- what holds of all labels of a list holds of each
all_at : (P : Label → Type 0) (xs : List Label) (l : Label) → All P xs → In l xs → P l
all_at P xs l h i = each_in P xs [] (λ k less. h k [] less) l i

-- whether the list has the label
abbrev pub has_label : List Label → Label → Bool
has_label labels l = list_any (λ m. bytes_eq m l) labels

-- a label is in a list or not
pub in_or_not : (labels : List Label) (l : Label) → In l labels ⊎ (In l labels → ⊥)
in_or_not labels l = by (has_label labels l) refl
  where
    by : (b : Bool) → has_label labels l ≡ b → In l labels ⊎ (In l labels → ⊥)
    by true e = inl (listed l labels e)
    by false e = inr (not_listed l labels e)

-- if a set begins with the least label of another, the rest of it is within the rest of the other
rest_among : (x y : Label) (xs ys : List Label) → y ≡ x → All (λ l. Below x l) xs → AreAmong (x ∷ xs) (y ∷ ys) → AreAmong xs ys
rest_among x y xs ys e above among l i = elim (among l (inr i)) [
  | inl same ↦ absurd (below_irrefl x (subst (λ m. Below x m) (sym same ∙ e) (all_at (λ m. Below x m) xs l above i)))
  | inr j ↦ j
]

-- if the first label of a set is in the rest of another, all of it is within that rest
whole_among : (x y : Label) (xs ys : List Label) → In x ys → All (λ l. Below x l) xs → All (λ l. Below y l) ys → AreAmong (x ∷ xs) (y ∷ ys) →
    AreAmong (x ∷ xs) ys
whole_among x y xs ys j above less among l i = elim (among l i) [
  | inl same ↦ absurd (by i (all_at (λ m. Below y m) ys x less j) same)
  | inr k ↦ k
]
  where
    by : In l (x ∷ xs) → Below y x → y ≡ l → ⊥
    by (inl e) h same = below_irrefl y (subst (λ m. Below y m) (e ∙ sym same) h)
    by (inr k) h same =
        let up = below_trans y x l h (all_at (λ m. Below x m) xs l above k) in below_irrefl y (subst (λ m. Below y m) (sym same) up)

-- a set within another has no more labels
pub no_longer : (xs ys : List Label) → IsAscending xs → IsAscending ys → AreAmong xs ys → length xs ≤ length ys
no_longer [] ys up high among = omega arith
no_longer (x ∷ xs) [] up high among = absurd (among x (inl refl))
no_longer (x ∷ xs) (y ∷ ys) (above, up) (less, high) among = elim (among x (inl refl)) [
  | inl e ↦ let h = no_longer xs ys up high (rest_among x y xs ys e above among) in omega arith
  | inr j ↦ let h = no_longer (x ∷ xs) ys (above, up) high (whole_among x y xs ys j above less among) in omega arith
]

-- and fewer, if one of the other's labels is missing
pub shorter : (xs ys : List Label) → IsAscending xs → IsAscending ys → AreAmong xs ys → (l : Label) → In l ys → (In l xs → ⊥) → length xs < length ys
shorter xs [] up high among l i missing = absurd i
shorter [] (y ∷ ys) up high among l i missing = omega arith
shorter (x ∷ xs) (y ∷ ys) (above, up) (less, high) among l i missing = elim (among x (inl refl)) [
  | inl e ↦ elim i [
    | inl same ↦ absurd (missing (inl (sym e ∙ same)))
    | inr k ↦ let h = shorter xs ys up high (rest_among x y xs ys e above among) l k (λ j. missing (inr j)) in omega arith
  ]
  | inr j ↦ let h = no_longer (x ∷ xs) ys (above, up) high (whole_among x y xs ys j above less among) in omega arith
]

module _ (one other : Observations) (ascends : (s labels : List Label) → one.MayOffer s labels → IsAscending labels) (s : List Label) where
  -- if there is no smaller set that the one may offer so, this one is a least
  least : (labels : List Label) → OffersSoFew one other s labels → ((fewer : List Label) → length fewer < length labels → OffersSoFew one other s fewer → ⊥) →
      (fewer : List Label) → OffersSoFew one other s fewer → AreAmong fewer labels → AreAmong labels fewer
  least labels few none fewer less among l i = elim (in_or_not fewer l) [
    | inl there ↦ there
    | inr missing ↦ absurd (none fewer (shorter fewer labels (ascends s fewer less.offers) (ascends s labels few.offers) among l i missing) less)
  ]

  -- if there is no least set that the one may offer so, there is none
  pub offers_none : ((labels : List Label) → OffersFewest one other s labels → ⊥) → (n : ℕ) (labels : List Label) → length labels < n →
      OffersSoFew one other s labels → ⊥
  offers_none none zero labels h few = absurd (omega arith)
  offers_none none (suc n) labels h few =
      let smaller = λ (fewer : List Label) (short : length fewer < length labels). offers_none none n fewer (omega arith) in
      none labels (record { so_few = few; least = least labels few smaller })
