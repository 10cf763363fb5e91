-- Patterns that match one sequence alone.
use Rattle.std.proofs.Common.{◌≡◌, ◌∙◌, ℕ, ◌+◌, ◌≤◌, Bool, List, [], ◌∷◌, ◌++◌, ap, arith, length, map, refl, subst, sym, take}
use Rattle.std.specs.Prelude.{◌↔◌, All, Contains, None, Option, Some, slice_get}
use Rattle.std.proofs.lemmas.List.{length-append, length-map, map-append}
use Rattle.std.proofs.lemmas.List.Elements.{All-cons, All-contains, All-head, All-nil, All-tail, Contains-push}
use Rattle.lotos_pattern.specs.PatternLabels.{Label}
use Rattle.lotos_pattern.specs.Patterns.{Element, IsJoin, IsObservable, LabelSet, Matches, OnlyLastDemandsRefusal, Segment, last_refusal, refuses}
use Rattle.lotos_pattern.specs.ExactPatterns.{end_elements, exact_elements, label_element}
use Rattle.lotos_pattern.specs.ElementView.{CanOccur, IsPattern, element_of, elements_of, pattern_of}
use Rattle.lotos_pattern.specs.declared.element.Element.{Element as CodeElement}
use Rattle.lotos_pattern.proofs.Words.{take_at}

-- the label of the element is the one that it was made of
own_label : (l m : Label) → Contains (l ∷ []) m → m ≡ l
own_label l m has = All-contains (λ x. x ≡ l) (l ∷ []) m (All-cons (λ x. x ≡ l) l [] refl (All-nil (λ x. x ≡ l))) has

-- it contains it
own_contained : (l : Label) → Contains (l ∷ []) l
own_contained l = Contains-push [] l

-- the end has the empty sequence as its segments
end_joined : (refused : Option LabelSet) → IsJoin Segment (end_elements refused) []
end_joined None = refl
end_joined (Some set) = ([], [], refl, refl, refl)

-- only the empty sequence has a segment for each of the elements after the last label
end_empty : (refused : Option LabelSet) (t : List Label) → IsJoin Segment (end_elements refused) t → t ≡ []
end_empty None t h = h
end_empty (Some set) t (front, rest, no_label, nothing, cut) = cc

module _ (refused : Option LabelSet) where
  -- the sequence has a segment for each of its elements
  joined : (s : List Label) → IsJoin Segment (exact_elements refused s) s
  joined [] = end_joined refused
  joined (l ∷ s) = (l ∷ [], s, (l, own_contained l, refl), joined s, refl)

  -- and no other has
  joined_alone : (s t : List Label) → IsJoin Segment (exact_elements refused s) t → t ≡ s
  joined_alone [] t h = end_empty refused t h
  joined_alone (l ∷ s) t (front, rest, (m, has, is), others, cut) =
      let same : m ≡ l = own_label l m has in
      let after : rest ≡ s = joined_alone s rest others in
      cc

-- of the elements after the last label only the last may demand a refusal
ends_last_alone : (refused : Option LabelSet) → OnlyLastDemandsRefusal (end_elements refused)
ends_last_alone None = tt
ends_last_alone (Some set) = tt

-- of the elements for one label only the last may demand a refusal
ends_last_after : (refused : Option LabelSet) (l : Label) → OnlyLastDemandsRefusal (exact_elements refused (l ∷ []))
ends_last_after None l = tt
ends_last_after (Some set) l = ((λ none. none), tt)

-- only the last of them may demand a refusal
ends_last : (refused : Option LabelSet) (s : List Label) → OnlyLastDemandsRefusal (exact_elements refused s)
ends_last refused [] = ends_last_alone refused
ends_last refused (l ∷ []) = ends_last_after refused l
ends_last refused (l ∷ m ∷ s) = ((λ none. none), ends_last refused (m ∷ s))

-- the last of them demands that the end refuses the set, if there is one
demands_alone : (refused : Option LabelSet) → last_refusal (end_elements refused) ≡ refused
demands_alone None = refl
demands_alone (Some set) = refl

-- so does the last of the elements for one label
demands_after : (refused : Option LabelSet) (l : Label) → last_refusal (exact_elements refused (l ∷ [])) ≡ refused
demands_after None l = refl
demands_after (Some set) l = refl

-- so does the last of the elements for any sequence
demands : (refused : Option LabelSet) (s : List Label) → last_refusal (exact_elements refused s) ≡ refused
demands refused [] = demands_alone refused
demands refused (l ∷ []) = demands_after refused l
demands refused (l ∷ m ∷ s) = demands refused (m ∷ s)

module _ (strong : Bool) (refused : Option LabelSet) where
  -- each of the elements after the last label can occur
  end_occurs : (d : Option LabelSet) → All (CanOccur strong) (end_elements d)
  end_occurs None = All-nil (CanOccur strong)
  end_occurs (Some set) = All-cons (CanOccur strong) (refuses set) [] ([], refl, All-nil (IsObservable strong)) (All-nil (CanOccur strong))

  -- each of them can occur
  all_occur : (s : List Label) → All (IsObservable strong) s → All (CanOccur strong) (exact_elements refused s)
  all_occur [] seen = end_occurs refused
  all_occur (l ∷ s) seen =
      let alone = All-cons (IsObservable strong) l [] (All-head (IsObservable strong) l s seen) (All-nil (IsObservable strong)) in
      All-cons (CanOccur strong) (label_element l) (exact_elements refused s) (l ∷ [], (l, own_contained l, refl), alone)
      (all_occur s (All-tail (IsObservable strong) l s seen))

  -- there is at most one element after the last label
  end_short : (d : Option LabelSet) → length (end_elements d) ≤ 1
  end_short None = omega arith
  end_short (Some set) = omega arith

  module _ (s : List Label) (elements : List Element) (made : elements ≡ exact_elements refused s) where
    -- they are the elements of a pattern
    pub exact_is_pattern : length s ≤ 255 → All (IsObservable strong) s → IsPattern (pattern_of strong elements)
    exact_is_pattern short seen = subst (λ es. IsPattern (pattern_of strong es)) (sym made) (record {
      ends_last = ends_last refused s;
      observable = all_occur s seen;
      short =
          let labels = length-map s label_element in
          let both = length-append (map label_element s) (end_elements refused) in
          let end = end_short refused in
          omega arith;
    })

    -- which matches the sequence alone
    pub exact_matches : All (IsObservable strong) s → (t : List Label) → Matches (pattern_of strong elements) t ↔ (t ≡ s)
    exact_matches seen t = subst (λ es. Matches (pattern_of strong es) t ↔ (t ≡ s)) (sym made) (
      (λ m. joined_alone refused s t m.joined),
      λ same. subst (λ u. Matches (pattern_of strong (exact_elements refused s)) u) (sym same) (record { joined = joined refused s; observable = seen }),
    )

    -- and demands that the end refuses the set, if there is one
    pub exact_demands : last_refusal elements ≡ refused
    exact_demands = ap last_refusal made ∙ demands refused s

-- where one element more is made, of the next label, there is one for each label before the next index
pub one_more_made : (labels : List Label) (made more : List CodeElement) (i : ℕ) (label : Label) (e : CodeElement) → slice_get labels i ≡ Some label →
    elements_of made ≡ map label_element (take i labels) → element_of e ≡ label_element label → more ≡ made ++ e ∷ [] →
    elements_of more ≡ map label_element (take (i + 1) labels)
one_more_made labels made more i label e here before is grown =
    let shown : elements_of more ≡ elements_of made ++ element_of e ∷ [] = ap elements_of grown ∙ map-append element_of made (e ∷ []) in
    let both : elements_of made ++ element_of e ∷ [] ≡ map label_element (take i labels) ++ label_element label ∷ [] =
    ap (λ es. es ++ element_of e ∷ []) before ∙ ap (λ f. map label_element (take i labels) ++ f ∷ []) is in
    shown ∙ both ∙ sym (ap (map label_element) (take_at labels i label here) ∙ map-append label_element (take i labels) (label ∷ []))
