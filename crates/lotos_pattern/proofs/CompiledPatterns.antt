-- The invariant of compiled patterns.
use Rattle.std.proofs.Common.{◌≡◌, ◌⊎◌, ◌∙◌, ℕ, zero, suc, ◌+◌, ◌<◌, ◌≤◌, List, [], ◌∷◌, ◌++◌, Option, None, Some, Result, Ok, Err, ap, arith, get_or, inl, inr, length, refl, subst, sym, take}
use Rattle.std.specs.Prelude.{IfOk, IfSome, slice_get}
use Rattle.std.proofs.lemmas.List.{length-append, length-take}
use Rattle.std.proofs.lemmas.Option.{get_or_from_slice_get, slice_get-get_or, slice_get_within}
use Rattle.lotos_pattern.specs.PatternLabels.{Label}
use Rattle.lotos_pattern.specs.NfaStates.{IsPlaceValue, Place}
use Rattle.lotos_pattern.specs.Places.{Accepts, IsPlaceOf}
use Rattle.lotos_pattern.specs.declared.place.End.{End}
use Rattle.lotos_pattern.specs.StepRows.{AddsOnly, HasEntry}
use Rattle.lotos_pattern.specs.PlaceNumbering.{IsNumbered, added, present}
use Rattle.lotos_pattern.specs.CompiledPatterns.{ArePlaces, CompiledView, IsFirstPlace, IsLabelAt, IsPlaceAfter, IsPlaceAt, KeepsPlaces, LeadsTo}
use Rattle.lotos_pattern.specs.CompiledInvariant.{EndsAs, IsCompiled}
use Rattle.lotos_pattern.proofs.StepRows.{get_added}

module _ {X : Type 0} where
  -- what is read at one index twice is the same
  pub same_item : (xs : List X) (n : ℕ) (x y : X) → slice_get xs n ≡ Some x → slice_get xs n ≡ Some y → x ≡ y
  same_item xs n x y e f = let both : Some x ≡ Some y = sym e ∙ f in cc

  -- an item of a list stays where others follow
  pub get_front : (xs ys : List X) (n : ℕ) (y : X) → slice_get xs n ≡ Some y → slice_get (xs ++ ys) n ≡ Some y
  get_front [] ys n y e = cc
  get_front (z ∷ xs) ys zero y e = e
  get_front (z ∷ xs) ys (suc n) y e = get_front xs ys n y e

  -- what is appended is the last
  pub get_last : (xs : List X) (x : X) → slice_get (xs ++ x ∷ []) (length xs) ≡ Some x
  get_last [] x = refl
  get_last (z ∷ xs) x = get_last xs x

  -- an item stays in as many as there are before it and itself
  pub get_taken : (xs : List X) (count n : ℕ) (y : X) → n < count → slice_get xs n ≡ Some y → slice_get (take count xs) n ≡ Some y
  get_taken [] count n y below e = cc
  get_taken (z ∷ xs) zero n y below e = absurd (omega arith)
  get_taken (z ∷ xs) (suc count) zero y below e = e
  get_taken (z ∷ xs) (suc count) (suc n) y below e = get_taken xs count n y (omega arith) e

-- what is numbered has its number
pub has_number : (old new : List Place) (place : Place) (n : ℕ) → IsNumbered old new place n → slice_get new n ≡ Some place
has_number old _ place n (present e) = e
has_number old _ place n (added none) = get_last old place

-- the places that were there keep their numbers
pub keeps_numbers : (old new : List Place) (place : Place) (n : ℕ) → IsNumbered old new place n → (k : ℕ) (q : Place) →
    slice_get old k ≡ Some q → slice_get new k ≡ Some q
keeps_numbers old _ place n (present e) k q at = at
keeps_numbers old _ place n (added none) k q at = get_front old (place ∷ []) k q at

-- there are no fewer places
pub no_fewer : (old new : List Place) (place : Place) (n : ℕ) → IsNumbered old new place n → length old ≤ length new
no_fewer old _ place n (present e) = omega arith
no_fewer old _ place n (added none) = let long = length-append old (place ∷ []) in omega arith

-- there is at most one more
pub at_most_one_more : (old new : List Place) (place : Place) (n : ℕ) → IsNumbered old new place n → length new ≤ length old + 1
at_most_one_more old _ place n (present e) = omega arith
at_most_one_more old _ place n (added none) = let long = length-append old (place ∷ []) in omega arith

-- the first place is the only one
only_one : (old new : List Place) (place : Place) (n : ℕ) → old ≡ [] → IsNumbered old new place n → new ≡ place ∷ []
only_one old _ place n none (present e) = let no : slice_get [] n ≡ Some place = subst (λ ps. slice_get ps n ≡ Some place) none e in cc
only_one old _ place n none (added absent) = ap (λ ps. ps ++ place ∷ []) none

-- a place that is there afterwards was there or is the one that got a number
pub was_there : (old new : List Place) (place : Place) (n : ℕ) → IsNumbered old new place n → (k : ℕ) (q : Place) → slice_get new k ≡ Some q →
    (slice_get old k ≡ Some q) ⊎ ((k ≡ length old) × (place ≡ q))
was_there old _ place n (present e) k q at = inl at
was_there old _ place n (added none) k q at = get_added old place k q at

-- no place gets two numbers
pub are_places : (old new : List Place) (place : Place) (n : ℕ) → IsPlaceValue place → IsNumbered old new place n → ArePlaces old → ArePlaces new
are_places old _ place n value (present e) are = are
are_places old _ place n value (added none) are = record {
  distinct = λ j k q at other. elim (get_added old place j q at) [
    | inl first ↦ elim (get_added old place k q other) [
      | inl second ↦ are.distinct j k q first second
      | inr last ↦ absurd (none j (subst (λ p. slice_get old j ≡ Some p) (sym last.1) first))
    ]
    | inr first ↦ elim (get_added old place k q other) [
      | inl second ↦ absurd (none k (subst (λ p. slice_get old k ≡ Some p) (sym first.1) second))
      | inr last ↦ first.0 ∙ sym last.0
    ]
  ];
  values = λ k q at. elim (get_added old place k q at) [
    | inl first ↦ are.values k q first
    | inr last ↦ subst IsPlaceValue last.1 value
  ];
}

-- where a label leads stays where places keep their numbers
pub leads_still : (old new : CompiledView) (from : Place) (label : Label) (to : Option ℕ) → KeepsPlaces old new → LeadsTo old from label to →
    LeadsTo new from label to
leads_still old new from label None keeps leads = subst (λ p. IsPlaceAfter p from label None) (sym keeps.pattern) leads
leads_still old new from label (Some n) keeps leads =
    (leads.0, keeps.places n leads.0 leads.1, subst (λ p. IsPlaceAfter p from label (Some leads.0)) (sym keeps.pattern) leads.2)

-- a place of an old number had it
pub was_at : (old new : CompiledView) (n : ℕ) (from : Place) → KeepsPlaces old new → n < length old.places → IsPlaceAt new n from → IsPlaceAt old n from
was_at old new n from keeps below at =
    let here = slice_get-get_or old.places n (record { bits = [] }) below in
    let same = same_item new.places n _ from (keeps.places n _ here) at in
    subst (λ q. slice_get old.places n ≡ Some q) same here

-- the ends of the places are the first of the new ends
kept_end : (ends more : List End) (count : ℕ) (rest : List End) → more ≡ take count ends ++ rest → (n : ℕ) (end : End) → n < count →
    slice_get ends n ≡ Some end → slice_get more n ≡ Some end
kept_end ends more count rest is n end below at =
    subst (λ es. slice_get es n ≡ Some end) (sym is) (get_front (take count ends) rest n end (get_taken ends count n end below at))

-- with the ends of its places alone, it is compiled
pub ends_cut : (c : CompiledView) (ends more : List End) (rows : List (List ℕ)) (count : ℕ) (rest : List End) → IsCompiled c ends rows →
    count ≡ length c.places → more ≡ take count ends ++ rest → IsCompiled c more rows
ends_cut c ends more rows count rest is all cut = record {
  first = is.first;
  places = is.places;
  enough_ends =
      let enough = is.enough_ends in
      let long = length-append (take count ends) rest in
      let taken = length-take count ends in
      rw cut (omega arith);
  ended = λ n place at.
      let own = is.ended n place at in
      let below = slice_get_within c.places n place at in
      (own.0, kept_end ends more count rest cut n own.0 (omega arith) own.1, own.2);
  placed = is.placed;
  known = is.known;
}

-- a place that gets a number leaves those of the others
pub keeps_places : (c d : CompiledView) (place : Place) (n : ℕ) → d.pattern ≡ c.pattern → d.labels ≡ c.labels →
    IsNumbered c.places d.places place n → KeepsPlaces c d
keeps_places c d place n same_pattern same_labels numbered = record {
  pattern = same_pattern;
  labels = same_labels;
  places = keeps_numbers c.places d.places place n numbered;
  more = no_fewer c.places d.places place n numbered;
}

-- with one place more, and its end
module _ (c d : CompiledView) (ends more : List End) (rows : List (List ℕ)) (count : ℕ) (place : Place) (end : End) (n : ℕ)
    (is : IsCompiled c ends rows) (all : count ≡ length c.places) (put : more ≡ take count ends ++ end ∷ []) (own : EndsAs c.pattern place end)
    (value : IsPlaceValue place) (same_pattern : d.pattern ≡ c.pattern) (same_labels : d.labels ≡ c.labels)
    (numbered : IsNumbered c.places d.places place n) where
  -- each place has its end
  end_here : (k : ℕ) (q : Place) → IsPlaceAt d k q → (e : End) × (slice_get more k ≡ Some e) × EndsAs d.pattern q e
  end_here k q at = elim (was_there c.places d.places place n numbered k q at) [
    | inl old ↦
        let was = is.ended k q old in
        let below = slice_get_within c.places k q old in
        (was.0, kept_end ends more count (end ∷ []) put k was.0 (omega arith) was.1, subst (λ p. EndsAs p q was.0) (sym same_pattern) was.2)
    | inr new ↦
        let long : length (take count ends) ≡ k = let enough = is.enough_ends in let taken = length-take count ends in let at_end = new.0 in omega arith in
        let last : slice_get (take count ends ++ end ∷ []) k ≡ Some end =
        subst (λ j. slice_get (take count ends ++ end ∷ []) j ≡ Some end) long (get_last (take count ends) end) in (
          end,
          subst (λ es. slice_get es k ≡ Some end) (sym put) last,
          subst (λ p. EndsAs p q end) (sym same_pattern) (subst (λ r. EndsAs c.pattern r end) new.1 own),
        )
  ]

  -- what an entry says stays true
  known_still : (k l : ℕ) (to : Option ℕ) → HasEntry rows k l to → (from : Place) (label : Label) → IsPlaceAt d k from → IsLabelAt d l label →
      LeadsTo d from label to
  known_still k l to has from label at named =
      let below = is.placed k l to has in
      let keeps = keeps_places c d place n same_pattern same_labels numbered in
      let old = was_at c d k from keeps below at in
      let text = subst (λ ls. slice_get ls l ≡ Some label) same_labels named in
      leads_still c d from label to keeps (is.known k l to has from label old text)

  -- the invariant holds
  pub place_added : IsCompiled d more rows
  place_added = record {
    first =
        let begin = is.first in
        (begin.0, keeps_numbers c.places d.places place n numbered 0 begin.0 begin.1, subst (λ p. IsFirstPlace p begin.0) (sym same_pattern) begin.2);
    places = are_places c.places d.places place n value numbered is.places;
    enough_ends =
        let enough = is.enough_ends in
        let long = length-append (take count ends) (end ∷ []) in
        let taken = length-take count ends in
        let most = at_most_one_more c.places d.places place n numbered in
        rw put (omega arith);
    ended = end_here;
    placed = λ k l to has. let below = is.placed k l to has in let fewer = no_fewer c.places d.places place n numbered in omega arith;
    known = known_still;
  }

-- the first end is the only one
pub only_end : (ends more : List End) (end : End) → more ≡ ends ++ end ∷ [] → ends ≡ [] → more ≡ end ∷ []
only_end ends more end put none = put ∙ ap (λ es. es ++ end ∷ []) none

-- with the first place alone, it is compiled
pub begun : (c : CompiledView) (place : Place) (end : End) (n : ℕ) (old : List Place) (ends : List End) (rows : List (List ℕ)) →
    IsFirstPlace c.pattern place → IsPlaceValue place → EndsAs c.pattern place end → old ≡ [] → IsNumbered old c.places place n →
    ends ≡ end ∷ [] → rows ≡ [] → IsCompiled c ends rows
begun c place end n old ends rows first value own none numbered put bare =
    let is : c.places ≡ place ∷ [] = only_one old c.places place n none numbered in
    rw (put, bare) (record {
      first = (place, rw is refl, first);
      places = are_places old c.places place n value numbered (rw none (record { distinct = λ j k q at other. cc; values = λ k q at. cc }));
      enough_ends = rw is (omega arith);
      ended = λ k q at. alone k q (rw is at at);
      placed = λ k l to has. let no = has.row_at in cc;
      known = λ k l to has from label at named. let no = has.row_at in cc;
    })
  where
    -- the first place has the first end
    alone : (k : ℕ) (q : Place) → slice_get (place ∷ []) k ≡ Some q → (e : End) × (slice_get (end ∷ []) k ≡ Some e) × EndsAs c.pattern q e
    alone zero q at = let same : place ≡ q = cc in (end, refl, subst (λ r. EndsAs c.pattern r end) same own)
    alone (suc k) q at = cc

-- with one entry more, which is true, it is compiled
pub entry_added : (c : CompiledView) (ends : List End) (rows more : List (List ℕ)) (place label : ℕ) (next : Option ℕ) → IsCompiled c ends rows →
    place < length c.places →
    ((from : Place) (text : Label) → IsPlaceAt c place from → IsLabelAt c label text → LeadsTo c from text next) →
    AddsOnly rows more place label next → IsCompiled c ends more
entry_added c ends rows more place label next is there leads only = record {
  first = is.first;
  places = is.places;
  enough_ends = is.enough_ends;
  ended = is.ended;
  placed = λ k l to has. elim (only k l to has) [ inl old ↦ is.placed k l to old | inr new ↦ let own = new.0 in omega arith ];
  known = λ k l to has from text at named. elim (only k l to has) [
    | inl old ↦ is.known k l to old from text at named
    | inr new ↦
        let here = subst (λ j. slice_get c.places j ≡ Some from) new.0 at in
        let named_here = subst (λ j. slice_get c.labels j ≡ Some text) new.1 named in
        subst (λ t. LeadsTo c from text t) (sym new.2) (leads from text here named_here)
  ];
}

-- the end that is read says what it has to
pub end_read : (c : CompiledView) (ends : List End) (rows : List (List ℕ)) (n : ℕ) (end : End) (from : Place) (r : List Label) →
    IsCompiled c ends rows → end ≡ get_or ends n end → IsPlaceAt c n from → IsPlaceOf c.pattern r from → Accepts c.pattern r end
end_read c ends rows n end from r is read at stands =
    let own = is.ended n from at in
    let same : end ≡ own.0 = read ∙ get_or_from_slice_get ends n own.0 end own.1 in
    subst (λ e. Accepts c.pattern r e) (sym same) (own.2 r stands)

-- the number to which a label leads is that of a place
pub leads_within : (old new : CompiledView) (place label : ℕ) (next : Option ℕ) → place < length old.places → label < length old.labels →
    ((from : Place) (text : Label) → IsPlaceAt old place from → IsLabelAt old label text → LeadsTo new from text next) →
    IfSome next (λ n. n < length new.places)
leads_within old new place label None below named leads = tt
leads_within old new place label (Some n) below named leads =
    let to = leads _ _ (slice_get-get_or old.places place (record { bits = [] }) below) (slice_get-get_or old.labels label [] named) in
    slice_get_within new.places n to.0 to.1

-- if the result is a success, the number in it to which a label leads is that of a place
pub answer_within : {E : Type 0} (old new : CompiledView) (place label : ℕ) (answer : Result (Option ℕ) E) → place < length old.places →
    label < length old.labels →
    IfOk answer (λ next. (from : Place) (text : Label) → IsPlaceAt old place from → IsLabelAt old label text → LeadsTo new from text next) →
    IfOk answer (λ next. IfSome next (λ n. n < length new.places))
answer_within old new place label (Ok next) below named leads = leads_within old new place label next below named leads
answer_within old new place label (Err e) below named leads = tt
