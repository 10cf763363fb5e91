-- A line has at most as many labels as there may be sets, unless the cover stops before it.
use Rattle.std.proofs.Common.{◌≡◌, ◌≤◌, ◌+◌, ◌∙◌, ℕ, zero, suc, List, [], ◌∷◌, ◌++◌, Some, length, map, refl, sym, ap, subst, inl, inr, arith, slice_get}
use Rattle.std.proofs.lemmas.List.{length-append, length-map}
use Rattle.std.proofs.lemmas.Option.{slice_get_within}
use Rattle.lotos_check.specs.NameLists.{In}
use Rattle.lotos_check.proofs.ListIndices.{get_map}
use Rattle.lotos_check.proofs.MappedLists.{in_map_from}
use Rattle.lotos_listing.specs.Order.{Label}
use Rattle.lotos_automaton.specs.TransitionCovers.{IsAccessBeyond, IsAccessSequence}
use Rattle.lotos_automaton.proofs.Explored.{AreCoverLaws, access_part}

-- what a sequence begins with, itself left out
fronts : List Label → List (List Label)
fronts [] = []
fronts (x ∷ r) = [] ∷ map (λ s. x ∷ s) (fronts r)

-- a sequence has as many proper prefixes as labels
front_count : (r : List Label) → length (fronts r) ≡ length r
unfolding fronts
front_count [] = refl
front_count (x ∷ r) = let more = front_count r in let same = length-map (fronts r) (λ s. x ∷ s) in omega arith

-- the proper prefix with the index `i` has `i` labels
front_length : (r : List Label) (i : ℕ) (f : List Label) → slice_get (fronts r) i ≡ Some f → length f ≡ i
unfolding fronts
front_length [] i f at = absurd (let within = slice_get_within [] i f at in omega arith)
front_length (x ∷ r) zero f at = let is : [] ≡ f = cc in ap length (sym is)
front_length (x ∷ r) (suc i) f at =
    let (g, there, is) = get_map (λ s. x ∷ s) (fronts r) i f at in
    let shorter = front_length r i g there in
    let longer : length f ≡ length g + 1 = ap length (sym is) ∙ (let z : length (x ∷ g) ≡ length g + 1 = omega arith in z) in
    omega arith

-- a sequence is each of its proper prefixes with a label and a rest after it
front_rest : (r f : List Label) → In f (fronts r) → (x : Label) × (y : List Label) × (f ++ x ∷ y ≡ r)
unfolding fronts
front_rest [] f there = absurd there
front_rest (x ∷ r) f (inl e) = (x, r, ap (λ s. s ++ x ∷ r) (sym e))
front_rest (x ∷ r) f (inr there) =
    let (g, inside, is) = in_map_from (λ s. x ∷ s) f (fronts r) there in
    let (l, y, rest) = front_rest r g inside in
    (l, y, ap (λ s. s ++ l ∷ y) (sym is) ∙ ap (λ s. x ∷ s) rest)

-- an access sequence comes after as many others as it has labels
pub beyond_fronts : (Observed : List Label → Type 0) (Same : List Label → List Label → Type 0) → AreCoverLaws Observed Same → (r : List Label) →
    IsAccessSequence Observed Same r → (bound : ℕ) → bound ≤ length r → IsAccessBeyond Observed Same bound r
beyond_fronts Observed Same laws r access bound long = record {
  access = access;
  others = fronts r;
  many = let count = front_count r in omega arith;
  distinct = λ i j f at there. sym (front_length r i f at) ∙ front_length r j f there;
  earlier = λ f there.
      let (x, y, is) = front_rest r f there in
      let count = ap length (sym is) ∙ length-append f (x ∷ y) in
      (access_part Observed Same laws f (x ∷ y) (subst (IsAccessSequence Observed Same) (sym is) access), inl (omega arith));
}
