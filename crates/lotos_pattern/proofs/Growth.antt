-- A pattern and one more element.
use Rattle.std.proofs.Common.{◌≡◌, ℕ, ◌+◌, ◌<◌, Bool, List, [], ◌∷◌, ◌++◌, length, take, Some, refl, sym, ap, subst, ◌∙◌, append_assoc, arith}
use Rattle.std.specs.Prelude.{All, slice_get}
use Rattle.std.specs.Borrow.{Bor}
use Rattle.std.proofs.lemmas.List.{append-nil, length-append, map-append}
use Rattle.std.proofs.lemmas.List.Elements.{All-cons, All-nil}
use Rattle.std.proofs.lemmas.Option.{slice_get_within}
use Rattle.lotos_pattern.specs.Patterns.{Element, IsDemanded, IsJoin, LabelSet, OnlyLastDemandsRefusal, last_refusal}
use Rattle.lotos_pattern.specs.Spelling.{PatternOf, SetSpelling, Spelling, Text, texts_of}
use Rattle.lotos_pattern.specs.PatternFaults.{BeginsElement, IsCause, SpellsNone, IsAfterPattern}
use Rattle.lotos_pattern.specs.ElementView.{CanOccur, IsPattern, element_of, elements_of, pattern_of}
use Rattle.lotos_pattern.specs.WordKinds.{CanBeFollowed, IsAppendFault, IsSpelledAt, ParsesAt, SpellsSetAt}
use Rattle.lotos_pattern.specs.declared.element.Element.{Element as CodeElement}
use Rattle.lotos_pattern.specs.declared.fault.PatternFault.{PatternFault}
use Rattle.lotos_pattern.proofs.Segments.{can_occur}
use Rattle.lotos_pattern.proofs.SpellingFaults.{full_cause, full_nothing}
use Rattle.lotos_pattern.proofs.Words.{take_at, within_texts}

module _ (words : List Text) (index : ℕ) (first : Text) (stands : slice_get words index ≡ Some first) (Spells : List Text → Type 0) where
  -- a word that spells something alone
  pub spelled_by_one : Spells (first ∷ []) → IsSpelledAt Spells words index (index + 1)
  spelled_by_one spelling = let there = slice_get_within words index first stands in record {
    own = first ∷ [];
    spelling = spelling;
    located = take_at words index first stands;
    further = omega arith;
    within = omega arith;
  }

  -- a word, with what the words after it spell
  pub spelled_after : (Rest : List Text → Type 0) (end : ℕ) → ((own : List Text) → Rest own → Spells (first ∷ own)) →
      IsSpelledAt Rest words (index + 1) end → IsSpelledAt Spells words index end
  spelled_after Rest end spell rest = let further = rest.further in record {
    own = first ∷ rest.own;
    spelling = spell rest.own rest.spelling;
    located = rest.located ∙ ap (λ front. front ++ rest.own) (take_at words index first stands) ∙ append_assoc (take index words) (first ∷ []) rest.own;
    further = omega arith;
    within = rest.within;
  }

module _ (words : List Text) (index : ℕ) (first : Text) (stands : slice_get words index ≡ Some first) (Spells : List Text → Type 0) where
  -- two words
  pub spelled_by_two : (second : Text) → slice_get words (index + 1) ≡ Some second → Spells (first ∷ second ∷ []) →
      IsSpelledAt Spells words index (index + 1 + 1)
  spelled_by_two second follows spelling =
      spelled_after words index first stands Spells (λ own. own ≡ second ∷ []) (index + 1 + 1)
      (λ own same. subst (λ rest. Spells (first ∷ rest)) (sym same) spelling)
      (spelled_by_one words (index + 1) second follows (λ own. own ≡ second ∷ []) refl)

-- what spells one thing spells another
pub spelled_too : {P Q : List Text → Type 0} (words : List Text) (index end : ℕ) → ((own : List Text) → P own → Q own) → IsSpelledAt P words index end →
    IsSpelledAt Q words index end
spelled_too words index end follows at = record {
  own = at.own;
  spelling = follows at.own at.spelling;
  located = at.located;
  further = at.further;
  within = at.within;
}

module _ (strong : Bool) where
  -- `<not>` and the names after it
  pub complement_spelled : (words : List Text) (index : ℕ) (set : LabelSet) → SpellsSetAt strong words index set →
      IsSpelledAt (SetSpelling strong set) words index (index + 2)
  complement_spelled words index set at =
      let same : index + 1 + 1 ≡ index + 2 = omega arith in
      subst (IsSpelledAt (SetSpelling strong set) words index) same
      (spelled_by_two words index at.first at.first_at (SetSpelling strong set) at.second at.second_at at.spelling)

  -- if words spell elements, and more words one element more, then all the words spell all the elements
  joined_more : (p : List Element) (e : Element) (words own : List Text) → IsJoin (Spelling strong) p words → Spelling strong e own →
      IsJoin (Spelling strong) (p ++ e ∷ []) (words ++ own)
  joined_more [] e words own none spelling = (own, [], spelling, refl, ap (λ front. front ++ own) none ∙ sym (append-nil own))
  joined_more (f ∷ p) e words own (front, rest, first, others, cut) spelling =
      (front, rest ++ own, first, joined_more p e rest own others spelling, ap (λ l. l ++ own) cut ∙ append_assoc front rest own)

  -- if no element demands that the end refuses a set, and one is appended, then no element but the last demands it
  ends_last_more : (p : List Element) (e : Element) → OnlyLastDemandsRefusal p → (IsDemanded (last_refusal p) → ⊥) → OnlyLastDemandsRefusal (p ++ e ∷ [])
  ends_last_more [] e last goes_on = tt
  ends_last_more (f ∷ []) e last goes_on = (goes_on, tt)
  ends_last_more (f ∷ g ∷ p) e last goes_on = (last.0, ends_last_more (g ∷ p) e last.1 goes_on)

  -- below the limit of elements, one element more makes a pattern
  one_more : (words : List Text) (index end : ℕ) (p : List Element) (e : Element) → PatternOf strong (take index words) (pattern_of strong p) →
      CanBeFollowed p →
      ParsesAt strong words index e end → PatternOf strong (take end words) (pattern_of strong (p ++ e ∷ []))
  one_more words index end p e spelled has next = record {
    shows = refl;
    spelled = subst (IsJoin (Spelling strong) (p ++ e ∷ [])) (sym next.located) (joined_more p e (take index words) next.own spelled.spelled next.spelling);
    short =
        let long : length (p ++ e ∷ []) ≡ length p + 1 = length-append p (e ∷ []) in
        let short = spelled.short in
        let below_limit = has.below_limit in
        omega arith;
    ends_last = ends_last_more p e spelled.ends_last has.goes_on;
  }

  -- each of the elements that words spell can occur
  all_occur : (p : List Element) (words : List Text) → IsJoin (Spelling strong) p words → All (CanOccur strong) p
  all_occur [] words none = All-nil (CanOccur strong)
  all_occur (e ∷ p) words (front, rest, spelling, others, cut) = All-cons (CanOccur strong) e p (can_occur strong e front spelling) (all_occur p rest others)

  -- what words spell is a pattern
  pub is_pattern : (words : List Text) (p : List Element) → PatternOf strong words (pattern_of strong p) → IsPattern (pattern_of strong p)
  is_pattern words p spelled = record { ends_last = spelled.ends_last; observable = all_occur p words spelled.spelled; short = spelled.short }

  -- the invariant of the loop: the words before the index spell the elements so far
  module _ (words : List (Bor Text)) (index : ℕ) (kept lent : List CodeElement) (there : index < length words)
      (spelled : PatternOf strong (take index (texts_of words)) (pattern_of strong (elements_of kept))) (same : lent ≡ kept) where
    stands : IsAfterPattern strong (texts_of words) (index + 1) (pattern_of strong (elements_of kept))
    stands = record { before = index; counted = refl; there = within_texts words index there; spelled = spelled }

    -- where no element may follow them, the fault has its cause
    pub full_here : (fault : PatternFault) → IsAppendFault (elements_of lent) (index + 1) fault →
        IsCause strong (texts_of words) fault × SpellsNone strong (texts_of words) fault
    full_here fault full =
        let own = subst (λ elements. IsAppendFault (elements_of elements) (index + 1) fault) same full in
        let p = pattern_of strong (elements_of kept) in
        (full_cause strong (texts_of words) index p stands fault own, full_nothing strong (texts_of words) index p stands fault own)

    -- if one may follow, it begins at the index
    pub begins_here : CanBeFollowed (elements_of lent) → BeginsElement strong (texts_of words) (index + 1)
    begins_here below_limit =
        let own : CanBeFollowed (elements_of kept) = subst (λ elements. CanBeFollowed (elements_of elements)) same below_limit in
        let short = spelled.short in
        let unfilled = own.below_limit in
        record { pattern = pattern_of strong (elements_of kept); is_after = stands; goes_on = own.goes_on; below_limit = omega arith }

    pub grown_here : (end : ℕ) (e : CodeElement) (more : List CodeElement) → CanBeFollowed (elements_of lent) →
        ParsesAt strong (texts_of words) index (element_of e) end → more ≡ kept ++ e ∷ [] →
        PatternOf strong (take end (texts_of words)) (pattern_of strong (elements_of more))
    grown_here end e more below_limit next grown =
        let own : CanBeFollowed (elements_of kept) = subst (λ elements. CanBeFollowed (elements_of elements)) same below_limit in
        let shown : elements_of more ≡ elements_of kept ++ element_of e ∷ [] = ap elements_of grown ∙ map-append element_of kept (e ∷ []) in
        subst (λ p. PatternOf strong (take end (texts_of words)) (pattern_of strong p)) (sym shown)
        (one_more (texts_of words) index end (elements_of kept) (element_of e) spelled own next)
