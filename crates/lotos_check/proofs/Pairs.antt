-- Two lists item by item.
use Rattle.std.proofs.Common.{◌≡◌, ℕ, ◌+◌, ◌<◌, ◌≤◌, ◌++◌, List, [], ◌∷◌, Some, drop, length, get_or, map, refl, sym, ap, subst, ◌∙◌, zero, suc}
use Rattle.std.specs.Prelude.{slice_get}
use Rattle.std.proofs.lemmas.List.{drop-map, drop_all, drop_more}
use Rattle.lotos_check.specs.Flat.{Pairwise, no_pair, one_pair}

module _ {X Y : Type 0} {P : X → Y → Type 0} where
  -- an item of the first list has its pair in the second
  pub pair_of_first : (xs : List X) (ys : List Y) → Pairwise P xs ys → (k : ℕ) (x : X) → slice_get xs k ≡ Some x →
      (y : Y) × (slice_get ys k ≡ Some y) × P x y
  pair_of_first [] [] no_pair k x e = cc
  pair_of_first (z ∷ xs) (y ∷ ys) (one_pair h hs) zero x e = let same : z ≡ x = cc in (y, refl, subst (λ v. P v y) same h)
  pair_of_first (z ∷ xs) (y ∷ ys) (one_pair h hs) (suc k) x e = pair_of_first xs ys hs k x e
  pair_of_first [] (y ∷ ys) h k x e = elim h [ ]
  pair_of_first (z ∷ xs) [] h k x e = elim h [ ]

  -- and an item of the second list its pair in the first
  pub pair_of_second : (xs : List X) (ys : List Y) → Pairwise P xs ys → (k : ℕ) (y : Y) → slice_get ys k ≡ Some y →
      (x : X) × (slice_get xs k ≡ Some x) × P x y
  pair_of_second [] [] no_pair k y e = cc
  pair_of_second (x ∷ xs) (z ∷ ys) (one_pair h hs) zero y e = let same : z ≡ y = cc in (x, refl, subst (P x) same h)
  pair_of_second (x ∷ xs) (z ∷ ys) (one_pair h hs) (suc k) y e = pair_of_second xs ys hs k y e
  pair_of_second [] (z ∷ ys) h k y e = elim h [ ]
  pair_of_second (x ∷ xs) [] h k y e = elim h [ ]

  -- the lists have one length
  pub pairs_length : (xs : List X) (ys : List Y) → Pairwise P xs ys → length xs ≡ length ys
  pairs_length [] [] no_pair = refl
  pairs_length (x ∷ xs) (y ∷ ys) (one_pair h hs) = ap suc (pairs_length xs ys hs)
  pairs_length [] (y ∷ ys) h = elim h [ ]
  pairs_length (x ∷ xs) [] h = elim h [ ]

  -- such lists are joined
  pub pairs_joined : (xs us : List X) (ys vs : List Y) → Pairwise P xs ys → Pairwise P us vs → Pairwise P (xs ++ us) (ys ++ vs)
  pairs_joined [] us [] vs no_pair k = k
  pairs_joined (x ∷ xs) us (y ∷ ys) vs (one_pair h hs) k = one_pair h (pairs_joined xs us ys vs hs k)
  pairs_joined [] us (y ∷ ys) vs h k = elim h [ ]
  pairs_joined (x ∷ xs) us [] vs h k = elim h [ ]

  -- one more pair at the end
  pub pair_end : (xs : List X) (ys : List Y) (x : X) (y : Y) → Pairwise P xs ys → P x y → Pairwise P (xs ++ x ∷ []) (ys ++ y ∷ [])
  pair_end xs ys x y all h = pairs_joined xs (x ∷ []) ys (y ∷ []) all (one_pair h no_pair)

-- what is left of a list begins with the item of that index
pub drop_at : {X : Type 0} (xs : List X) (i : ℕ) (d x : X) → i < length xs → x ≡ get_or xs i d → drop i xs ≡ x ∷ drop (i + 1) xs
drop_at xs i d x h e = drop_more xs i d h ∙ ap (λ y. y ∷ drop (i + 1) xs) (sym e)

-- the same of the views of a list
pub drop_seen : {W X : Type 0} (view : W → X) (xs : List W) (i : ℕ) (x : W) → i < length xs → x ≡ get_or xs i x →
    drop i (map view xs) ≡ view x ∷ drop (i + 1) (map view xs)
drop_seen view xs i x h e =
    drop-map view i xs ∙ ap (map view) (drop_at xs i x x h e) ∙ ap (λ t. view x ∷ t) (sym (drop-map view (i + 1) xs))

module _ {W X Y : Type 0} {P : X → Y → Type 0} (view : W → X) (xs : List W) (ys : List Y) where
  -- from one index on the lists agree, if the items there do and so do those after them
  pub pairs_from : (i : ℕ) (x : W) (y : Y) → i < length xs → i < length ys → x ≡ get_or xs i x → y ≡ get_or ys i y → P (view x) y →
      Pairwise P (drop (i + 1) (map view xs)) (drop (i + 1) ys) → Pairwise P (drop i (map view xs)) (drop i ys)
  pairs_from i x y h k e f p more =
      let a = drop_seen view xs i x h e in
      let b = drop_at ys i y y k f in
      subst (λ t. Pairwise P t (drop i ys)) (sym a) (subst (λ t. Pairwise P (view x ∷ drop (i + 1) (map view xs)) t) (sym b) (one_pair p more))

  -- after the ends of the lists nothing is left
  pub pairs_end : (i : ℕ) → length xs ≤ i → length ys ≤ i → Pairwise P (drop i (map view xs)) (drop i ys)
  pairs_end i h k =
      let a : drop i (map view xs) ≡ [] = drop-map view i xs ∙ ap (map view) (drop_all i xs h) in
      subst (λ t. Pairwise P t (drop i ys)) (sym a) (subst (λ t. Pairwise P [] t) (sym (drop_all i ys k)) no_pair)
