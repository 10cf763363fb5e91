-- What the last element demands, and the elements from one on.
use Rattle.std.proofs.Common.{◌≡◌, ℕ, suc, ◌+◌, ◌-◌, ◌<◌, List, [], ◌∷◌, length, drop, refl, sym, ap, subst, ◌∙◌, arith, get_or}
use Rattle.std.specs.Prelude.{All, Option, Some, option_map, slice_get}
use Rattle.std.proofs.lemmas.List.{drop_more, length-map, get_or-map, drop_all}
use Rattle.std.proofs.lemmas.Option.{get_or_from_slice_get, slice_get-map, slice_get_read, slice_get_within}
use Rattle.lotos_pattern.specs.Patterns.{Element, LabelSet, last_refusal, refusal_of}
use Rattle.lotos_pattern.specs.ElementView.{element_of, elements_of}
use Rattle.lotos_pattern.specs.declared.element.Element.{Element as CodeElement}

-- the elements from a kept one on
elements_from : (kept : List CodeElement) (i : ℕ) (x : CodeElement) → i < length kept → x ≡ get_or kept i x →
    drop i (elements_of kept) ≡ element_of x ∷ drop (i + 1) (elements_of kept)
elements_from kept i x within is =
    let there : i < length (elements_of kept) = let h = length-map kept element_of in omega arith in
    drop_more (elements_of kept) i (element_of x) there ∙ ap (λ e. e ∷ drop (i + 1) (elements_of kept))
    (get_or-map element_of kept i x (element_of x) within ∙ ap element_of (sym is))

-- the same, of a pattern whose elements these are
pub elements_at : (p : List Element) (kept : List CodeElement) (i : ℕ) (x : CodeElement) → elements_of kept ≡ p → i < length kept → x ≡ get_or kept i x →
    drop i p ≡ element_of x ∷ drop (i + 1) p
elements_at p kept i x shown within is = subst (λ q. drop i q ≡ element_of x ∷ drop (i + 1) q) shown (elements_from kept i x within is)

-- and the one element
pub element_at : (p : List Element) (kept : List CodeElement) (i : ℕ) (x : CodeElement) → elements_of kept ≡ p → i < length kept → x ≡ get_or kept i x →
    slice_get p i ≡ Some (element_of x)
element_at p kept i x shown within is =
    let there : slice_get kept i ≡ Some x = slice_get_read kept (length kept) i x refl within is in
    subst (λ q. slice_get q i ≡ Some (element_of x)) shown (slice_get-map element_of kept i ∙ ap (option_map element_of) there)

-- as many elements are kept as the pattern has
pub as_long : (p : List Element) (kept : List CodeElement) → elements_of kept ≡ p → length kept ≡ length p
as_long p kept shown = sym (length-map kept element_of) ∙ ap length shown

-- what holds of all elements holds of the one there
pub all_at : (P : Element → Type 0) (p : List Element) (i : ℕ) (e : Element) → All P p → slice_get p i ≡ Some e → P e
all_at P p i e all here = subst P (get_or_from_slice_get p i e e here) (all i e (slice_get_within p i e here))

-- the last element decides
last_decides : (p : List Element) (e : Element) → drop (length p - 1) p ≡ e ∷ [] → last_refusal p ≡ refusal_of e
last_decides [] e is = absurd (let none : [] ≡ e ∷ [] = is in let z : ⊥ = cc in z)
last_decides (f ∷ []) e is = let same : f ∷ [] ≡ e ∷ [] = is in ap refusal_of cc
last_decides (f ∷ g ∷ p) e is =
    let shorter : length (f ∷ g ∷ p) - 1 ≡ suc (length (g ∷ p) - 1) = omega arith in
    last_decides (g ∷ p) e (subst (λ i. drop i (f ∷ g ∷ p) ≡ e ∷ []) shorter is)

-- the set that the last kept element demands to be refused, if any, is the one that the elements demand
pub last_kept : (kept : List CodeElement) (x : CodeElement) (answer : Option LabelSet) → 0 < length kept → x ≡ get_or kept (length kept - 1) x →
    answer ≡ refusal_of (element_of x) → answer ≡ last_refusal (elements_of kept)
last_kept kept x answer some is h =
    let i = length kept - 1 in
    let as_long : length (elements_of kept) ≡ length kept = length-map kept element_of in
    let none : drop (i + 1) (elements_of kept) ≡ [] = drop_all (i + 1) (elements_of kept) (omega arith) in
    let here : drop i (elements_of kept) ≡ element_of x ∷ [] = elements_from kept i x (omega arith) is ∙ ap (λ rest. element_of x ∷ rest) none in
    let at : drop (length (elements_of kept) - 1) (elements_of kept) ≡ element_of x
    ∷ [] = subst (λ n. drop (n - 1) (elements_of kept) ≡ element_of x ∷ []) (sym as_long) here in
    h ∙ sym (last_decides (elements_of kept) (element_of x) at)
