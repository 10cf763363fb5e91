-- If no element can begin or end at a word, the words spell no pattern.
use Rattle.std.proofs.Common.{◌≡◌, ℕ, ◌+◌, ◌<◌, Bool, false, List, [], ◌∷◌, ◌++◌, length, take, drop, Some, refl, sym, ap, subst, ◌∙◌, arith, codes, inl, inr}
use Rattle.std.specs.Prelude.{slice_get}
use Rattle.std.proofs.lemmas.List.{drop_all, length-drop, take-append-drop, length-append}
use Rattle.lotos_pattern.specs.Patterns.{Element, IsDemanded, IsJoin, LabelSet, OnlyLastDemandsRefusal, Pattern, last_refusal}
use Rattle.lotos_pattern.specs.Spelling.{EqualsIgnoringCase, IsAny, IsDeadlock, IsFuture, IsNot, IsRefuses, IsUntil, IsWhile, PatternOf}
use Rattle.lotos_pattern.specs.Spelling.{RefusalSpelling, SetSpelling}
use Rattle.lotos_pattern.specs.Spelling.{Spelling, Text, WideSetSpelling, all, complement, deadlock, end, named, one_of, refused, some, until_end}
use Rattle.lotos_pattern.specs.Spelling.{until_set, while_set}
use Rattle.lotos_pattern.specs.PatternFaults.{AwaitsEnd, AwaitsSet, BeginsElement, BeginsNoElement, BeginsNoSet, EndsNoComplement, EndsNoUntil}
use Rattle.lotos_pattern.specs.PatternFaults.{HasNoSetAfter, HasWord}
use Rattle.lotos_pattern.specs.PatternFaults.{IsAfterPattern, IsCause, IsLabels, NamesInternal, SpellsNone}
use Rattle.lotos_pattern.specs.WordKinds.{IsAppendFault, IsEndFaultAt, IsFaultAt, IsSetFaultAt}
use Rattle.lotos_pattern.specs.declared.fault.PatternFault.{PatternFault}
use Rattle.lotos_pattern.specs.declared.fault.PatternFault.TheVariants.{E41, E42, E43, E44, E45, E48, E50, E51, E99}
use Rattle.lotos_pattern.proofs.LabelNames.{internal_no_angle, internal_no_labels, labels_no_angle}
use Rattle.lotos_pattern.proofs.Words.{Differ, apart, drop_at}
use Rattle.lotos_pattern.proofs.Spellings.{goes_on}

-- a word with a number has the index before it
pub numbered : (words : List Text) (index : ℕ) (Such : Text → Type 0) (has : HasWord words (index + 1) Such) → slice_get words index ≡ Some has.word
numbered words index Such has =
    let same : has.before ≡ index = let h = has.counted in omega arith in
    subst (λ i. slice_get words i ≡ Some has.word) same has.located

-- a text that is none of the words with which an element begins
record OthersDiffer (text : Text) : Type 0 where
  complement : Differ (codes "<not>") text
  any : Differ (codes "<any>") text
  until : Differ (codes "<until>") text
  while : Differ (codes "<while>") text
  deadlock : Differ (codes "<deadlock>") text
  refuses : Differ (codes "<refuses>") text

-- nothing follows a demand on the end
dead_last : (p : List Element) (e : Element) (more : List Element) → IsDemanded (last_refusal p) → OnlyLastDemandsRefusal (p ++ e ∷ more) → ⊥
dead_last [] e more dead last = dead
dead_last (f ∷ []) e more dead last = last.0 dead
dead_last (f ∷ g ∷ p) e more dead last = dead_last (g ∷ p) e more dead last.1

module _ (strong : Bool) where
  -- the words begin with those of a set
  data SetHead : List Text → Type 0 where
    names_head : {word : Text} {more : List Text} → IsLabels strong word → SetHead (word ∷ more)
    not_head : {first second : Text} {more : List Text} → IsNot first → IsLabels strong second → SetHead (first ∷ second ∷ more)

  -- the words begin with those of a set, which may be that of all labels
  data WideSetHead : List Text → Type 0 where
    some_head : {words : List Text} → SetHead words → WideSetHead words
    all_head : {word : Text} {more : List Text} → IsAny word → WideSetHead (word ∷ more)

  -- the words begin with those of a demand on the end
  data RefusalHead : List Text → Type 0 where
    deadlock_head : {word : Text} {more : List Text} → IsDeadlock word → RefusalHead (word ∷ more)
    refuses_head : {first : Text} {rest : List Text} → IsRefuses first → WideSetHead rest → RefusalHead (first ∷ rest)

  -- the words begin with those of an element
  data ElementHead : List Text → Type 0 where
    set_head : {words : List Text} → WideSetHead words → ElementHead words
    until_head : {first : Text} {rest : List Text} → IsUntil first → SetHead rest → ElementHead (first ∷ rest)
    until_end_head : {first : Text} {rest : List Text} → IsUntil first → RefusalHead rest → ElementHead (first ∷ rest)
    while_head : {first : Text} {rest : List Text} → IsWhile first → WideSetHead rest → ElementHead (first ∷ rest)
    end_head : {words : List Text} → RefusalHead words → ElementHead words

  -- the spelling of a set, with any words after it, begins with the words of a set
  set_begins : (set : LabelSet) (own rest : List Text) → SetSpelling strong set own → SetHead (own ++ rest)
  set_begins _ _ rest (named {labels = labels} n) = names_head (labels, n)
  set_begins _ _ rest (complement {labels = labels} i n) = not_head i (labels, n)

  -- the spelling of a set, even of that of all labels, with any words after it, begins with the words of such a set
  wide_set_begins : (set : LabelSet) (own rest : List Text) → WideSetSpelling strong set own → WideSetHead (own ++ rest)
  wide_set_begins set own rest (some h) = some_head (set_begins set own rest h)
  wide_set_begins _ _ rest (all i) = all_head i

  -- the spelling of a demand on the end, with any words after it, begins with the words of such a demand
  refusal_begins : (set : LabelSet) (own rest : List Text) → RefusalSpelling strong set own → RefusalHead (own ++ rest)
  refusal_begins _ _ rest (deadlock i) = deadlock_head i
  refusal_begins set _ rest (refused {rest = own} i h) = refuses_head i (wide_set_begins set own rest h)

  -- the spelling of an element, with any words after it, begins with the words of an element
  element_begins : (e : Element) (own rest : List Text) → Spelling strong e own → ElementHead (own ++ rest)
  element_begins _ own rest (one_of {set = set} h) = set_head (wide_set_begins set own rest h)
  element_begins _ _ rest (until_set {set = set} {rest = own} i h) = until_head i (set_begins set own rest h)
  element_begins _ _ rest (while_set {set = set} {rest = own} i h) = while_head i (wide_set_begins set own rest h)
  element_begins _ own rest (end {set = set} h) = end_head (refusal_begins set own rest h)
  element_begins _ _ rest (until_end {set = set} {rest = own} i h) = until_end_head i (refusal_begins set own rest h)

  -- a list of words does not begin with those of an element if its first word begins none
  no_beginning : (word : Text) (tail : List Text) → BeginsNoElement strong word → ElementHead (word ∷ tail) → ⊥
  no_beginning word tail none (set_head (some_head (names_head n))) = none.labels n
  no_beginning word _ none (set_head (some_head (not_head i n))) = none.complement i
  no_beginning word tail none (set_head (all_head i)) = none.any i
  no_beginning word tail none (until_head i h) = none.until i
  no_beginning word tail none (until_end_head i h) = none.until i
  no_beginning word tail none (while_head i h) = none.while i
  no_beginning word tail none (end_head (deadlock_head i)) = none.deadlock i
  no_beginning word tail none (end_head (refuses_head i h)) = none.refuses i

  -- if internal steps are not observed, no element begins with a word that names the internal action
  no_internal : (word : Text) (tail : List Text) → strong ≡ false → NamesInternal word → ElementHead (word ∷ tail) → ⊥
  no_internal word tail hidden is (set_head (some_head (names_head n))) = internal_no_labels strong word hidden is n
  no_internal word _ hidden is (set_head (some_head (not_head i n))) = internal_no_angle word _ is i
  no_internal word tail hidden is (set_head (all_head i)) = internal_no_angle word _ is i
  no_internal word tail hidden is (until_head i h) = internal_no_angle word _ is i
  no_internal word tail hidden is (until_end_head i h) = internal_no_angle word _ is i
  no_internal word tail hidden is (while_head i h) = internal_no_angle word _ is i
  no_internal word tail hidden is (end_head (deadlock_head i)) = internal_no_angle word _ is i
  no_internal word tail hidden is (end_head (refuses_head i h)) = internal_no_angle word _ is i

  -- no element begins with a word in angle brackets that is none of these
  no_angle : (word tail : Text) (more : List Text) → EqualsIgnoringCase word (60 ∷ tail) → OthersDiffer (60 ∷ tail) → ElementHead (word ∷ more) → ⊥
  no_angle word tail more is differ (set_head (some_head (names_head n))) = labels_no_angle strong word tail n is
  no_angle word tail _ is differ (set_head (some_head (not_head i n))) = apart word _ _ i is differ.complement
  no_angle word tail more is differ (set_head (all_head i)) = apart word _ _ i is differ.any
  no_angle word tail more is differ (until_head i h) = apart word _ _ i is differ.until
  no_angle word tail more is differ (until_end_head i h) = apart word _ _ i is differ.until
  no_angle word tail more is differ (while_head i h) = apart word _ _ i is differ.while
  no_angle word tail more is differ (end_head (deadlock_head i)) = apart word _ _ i is differ.deadlock
  no_angle word tail more is differ (end_head (refuses_head i h)) = apart word _ _ i is differ.refuses

  -- no element begins with a demand on what can come after the end
  no_future : (word : Text) (more : List Text) → IsFuture word → ElementHead (word ∷ more) → ⊥
  no_future word more (inl is) = no_angle word _ more is
      (record { complement = refl; any = refl; until = refl; while = refl; deadlock = refl; refuses = refl })
  no_future word more (inr (inl is)) = no_angle word _ more is
      (record { complement = refl; any = refl; until = refl; while = refl; deadlock = refl; refuses = refl })
  no_future word more (inr (inr is)) = no_angle word _ more is
      (record { complement = refl; any = refl; until = refl; while = refl; deadlock = refl; refuses = refl })

  -- what goes on with an element after `<until>`, and with a set after `<not>`
  data UntilTail : List Text → Type 0 where
    until_goes_on : {words : List Text} → SetHead words → UntilTail words
    until_ends : {words : List Text} → RefusalHead words → UntilTail words

  data NotTail : List Text → Type 0 where
    not_ends : {word : Text} {more : List Text} → IsLabels strong word → NotTail (word ∷ more)

  -- if an element begins with `<until>`, the next words begin with those of a set or of a demand on the end
  until_tail : (word : Text) (tail : List Text) → IsUntil word → ElementHead (word ∷ tail) → UntilTail tail
  until_tail word tail is (set_head (some_head (names_head n))) = absurd (labels_no_angle strong word _ n is)
  until_tail word _ is (set_head (some_head (not_head i n))) = absurd (apart word _ _ is i refl)
  until_tail word tail is (set_head (all_head i)) = absurd (apart word _ _ is i refl)
  until_tail word tail is (until_head i h) = until_goes_on h
  until_tail word tail is (until_end_head i h) = until_ends h
  until_tail word tail is (while_head i h) = absurd (apart word _ _ is i refl)
  until_tail word tail is (end_head (deadlock_head i)) = absurd (apart word _ _ is i refl)
  until_tail word tail is (end_head (refuses_head i h)) = absurd (apart word _ _ is i refl)

  -- if an element begins with `<while>`, the next words begin with those of a set, which may be that of all labels
  while_tail : (word : Text) (tail : List Text) → IsWhile word → ElementHead (word ∷ tail) → WideSetHead tail
  while_tail word tail is (set_head (some_head (names_head n))) = absurd (labels_no_angle strong word _ n is)
  while_tail word _ is (set_head (some_head (not_head i n))) = absurd (apart word _ _ is i refl)
  while_tail word tail is (set_head (all_head i)) = absurd (apart word _ _ is i refl)
  while_tail word tail is (until_head i h) = absurd (apart word _ _ is i refl)
  while_tail word tail is (until_end_head i h) = absurd (apart word _ _ is i refl)
  while_tail word tail is (while_head i h) = h
  while_tail word tail is (end_head (deadlock_head i)) = absurd (apart word _ _ is i refl)
  while_tail word tail is (end_head (refuses_head i h)) = absurd (apart word _ _ is i refl)

  -- if an element begins with `<refuses>`, the next words begin with those of a set, which may be that of all labels
  refuses_tail : (word : Text) (tail : List Text) → IsRefuses word → ElementHead (word ∷ tail) → WideSetHead tail
  refuses_tail word tail is (set_head (some_head (names_head n))) = absurd (labels_no_angle strong word _ n is)
  refuses_tail word _ is (set_head (some_head (not_head i n))) = absurd (apart word _ _ is i refl)
  refuses_tail word tail is (set_head (all_head i)) = absurd (apart word _ _ is i refl)
  refuses_tail word tail is (until_head i h) = absurd (apart word _ _ is i refl)
  refuses_tail word tail is (until_end_head i h) = absurd (apart word _ _ is i refl)
  refuses_tail word tail is (while_head i h) = absurd (apart word _ _ is i refl)
  refuses_tail word tail is (end_head (deadlock_head i)) = absurd (apart word _ _ is i refl)
  refuses_tail word tail is (end_head (refuses_head i h)) = h

  -- if an element begins with `<not>`, the next word names labels
  not_tail : (word : Text) (tail : List Text) → IsNot word → ElementHead (word ∷ tail) → NotTail tail
  not_tail word tail is (set_head (some_head (names_head n))) = absurd (labels_no_angle strong word _ n is)
  not_tail word _ is (set_head (some_head (not_head i n))) = not_ends n
  not_tail word tail is (set_head (all_head i)) = absurd (apart word _ _ is i refl)
  not_tail word tail is (until_head i h) = absurd (apart word _ _ is i refl)
  not_tail word tail is (until_end_head i h) = absurd (apart word _ _ is i refl)
  not_tail word tail is (while_head i h) = absurd (apart word _ _ is i refl)
  not_tail word tail is (end_head (deadlock_head i)) = absurd (apart word _ _ is i refl)
  not_tail word tail is (end_head (refuses_head i h)) = absurd (apart word _ _ is i refl)

  -- nothing goes on with no word, or with a word that does not
  no_set_head : SetHead [] → ⊥
  no_set_head h = elim h [ ]

  -- the empty list does not begin with the words of a set, not even with those of the set of all labels
  no_wide_set_head : WideSetHead [] → ⊥
  no_wide_set_head (some_head h) = no_set_head h

  -- the empty list does not begin with the words of a demand on the end
  no_refusal_head : RefusalHead [] → ⊥
  no_refusal_head h = elim h [ ]

  -- if there is no word after `<until>`, no element goes on
  until_stops : UntilTail [] → ⊥
  until_stops (until_goes_on h) = no_set_head h
  until_stops (until_ends h) = no_refusal_head h

  -- if there is no word after `<not>`, no set goes on
  not_stops : NotTail [] → ⊥
  not_stops h = elim h [ ]

  -- no element goes on after `<until>` if the next word goes on none that `<until>` begins
  until_fails : (word : Text) (tail : List Text) → EndsNoUntil strong word → UntilTail (word ∷ tail) → ⊥
  until_fails word tail none (until_goes_on (names_head n)) = none.labels n
  until_fails word _ none (until_goes_on (not_head i n)) = none.complement i
  until_fails word tail none (until_ends (deadlock_head i)) = none.deadlock i
  until_fails word tail none (until_ends (refuses_head i h)) = none.refuses i

  -- a list of words does not begin with those of a set, be it that of all labels, if its first word begins none
  wide_set_fails : (word : Text) (tail : List Text) → BeginsNoSet strong word → WideSetHead (word ∷ tail) → ⊥
  wide_set_fails word tail none (some_head (names_head n)) = none.labels n
  wide_set_fails word _ none (some_head (not_head i n)) = none.complement i
  wide_set_fails word tail none (all_head i) = none.any i

  -- no set goes on after `<not>` if the next word does not name labels
  not_fails : (word : Text) (tail : List Text) → (IsLabels strong word → ⊥) → NotTail (word ∷ tail) → ⊥
  not_fails word tail none (not_ends n) = none n

  -- what goes on with an element is itself the beginning of one
  until_next : (words : List Text) → UntilTail words → ElementHead words
  until_next words (until_goes_on h) = set_head (some_head h)
  until_next words (until_ends h) = end_head h

  -- the element of a pattern that begins at an index
  record Next (words : List Text) (index : ℕ) (p q : List Element) : Type 0 where
    element : Element
    more : List Element
    whole : q ≡ p ++ element ∷ more
    front : List Text
    rest : List Text
    spelling : Spelling strong element front
    cut : drop index words ≡ front ++ rest

  -- if the words from the index on, one at least, spell the elements of `q` after `p`, the first of these begins there
  next_of : (words : List Text) (index : ℕ) (p q more : List Element) → index < length words → q ≡ p ++ more →
      IsJoin (Spelling strong) more (drop index words) → Next words index p q
  next_of words index p q [] there whole none = let long = length-drop index words in let empty = ap length none in absurd (omega arith)
  next_of words index p q (e ∷ more) there whole (front, remainder, spelling, others, cut) =
      record { element = e; more = more; whole = whole; front = front; rest = remainder; spelling = spelling; cut = cut }

  -- whatever pattern the words spell, it begins with the one that those before the index spell, and an element of it begins there
  next : (words : List Text) (index : ℕ) (p q : Pattern) → IsAfterPattern strong words (index + 1) p → PatternOf strong words q →
      Next words index p.elements q.elements
  next words index p q stands spelled =
      let same : stands.before ≡ index = let h = stands.counted in omega arith in
      let front : IsJoin (Spelling strong) p.elements (take index words) =
      subst (λ i. IsJoin (Spelling strong) p.elements (take i words)) same stands.spelled.spelled in
      let further = goes_on strong p.elements q.elements (take index words) (drop index words) words (sym (take-append-drop index words)) front
      spelled.spelled in
      next_of words index p.elements q.elements further.more (subst (λ i. i < length words) same stands.there) further.whole further.spelled

  module _ (words : List Text) (index : ℕ) (word : Text) (stands : slice_get words index ≡ Some word) where
    here : (Such : Text → Type 0) → Such word → HasWord words (index + 1) Such
    here Such such = record { before = index; word = word; counted = refl; located = stands; such = such }

    -- where no element begins, the words spell no pattern
    spells_none : (ElementHead (word ∷ drop (index + 1) words) → ⊥) → BeginsElement strong words (index + 1) → (q : Pattern) → PatternOf strong words q → ⊥
    spells_none none begins q spelled =
        let n = next words index begins.pattern q begins.is_after spelled in
        let cut : word ∷ drop (index + 1) words ≡ n.front ++ n.rest = sym (drop_at words index word stands) ∙ n.cut in
        none (subst ElementHead (sym cut) (element_begins n.element n.front n.rest n.spelling))

  module _ (words : List Text) (index : ℕ) (word : Text) (stands : slice_get words index ≡ Some word) where
    -- the words after the one before
    after_word : (before : ℕ) → index ≡ before + 1 → drop (before + 1) words ≡ word ∷ drop (index + 1) words
    after_word before same = subst (λ i. drop i words ≡ word ∷ drop (index + 1) words) same (drop_at words index word stands)

    -- nor do they where a demand on the end may begin, and no element does
    end_spells_none : (ElementHead (word ∷ drop (index + 1) words) → ⊥) → AwaitsEnd strong words (index + 1) → (q : Pattern) → PatternOf strong words q → ⊥
    end_spells_none none (inl begins) = spells_none words index word stands none begins
    end_spells_none none (inr (n, same, with_until)) =
        let first = with_until.first in
        let before = first.before in
        let counted = first.counted in
        let follows : index ≡ before + 1 = omega arith in
        spells_none words before first.word first.located
        (λ h. none (subst ElementHead (after_word before follows) (until_next _ (until_tail first.word (drop (before + 1) words) first.such h))))
        (subst (BeginsElement strong words) counted with_until.begins)

  module _ (words : List Text) (index : ℕ) (word : Text) (stands : slice_get words index ≡ Some word) where
    -- nor where a set may begin
    set_spells_none : (ElementHead (word ∷ drop (index + 1) words) → ⊥) → AwaitsSet strong words (index + 1) → (q : Pattern) → PatternOf strong words q → ⊥
    set_spells_none none (inl awaits) = end_spells_none words index word stands none awaits
    set_spells_none none (inr (n, same, inl with_while)) =
        let first = with_while.first in
        let before = first.before in
        let counted = first.counted in
        let follows : index ≡ before + 1 = omega arith in
        spells_none words before first.word first.located
        (λ h. none (subst ElementHead (after_word words index word stands before follows)
        (set_head (while_tail first.word (drop (before + 1) words) first.such h))))
        (subst (BeginsElement strong words) counted with_while.begins)
    set_spells_none none (inr (n, same, inr (awaits, first))) =
        let before = first.before in
        let counted = first.counted in
        let follows : index ≡ before + 1 = omega arith in
        end_spells_none words before first.word first.located
        (λ h. none (subst ElementHead (after_word words index word stands before follows)
        (set_head (refuses_tail first.word (drop (before + 1) words) first.such h))))
        (subst (AwaitsEnd strong words) counted awaits)

    pub fault_nothing : BeginsNoElement strong word → IsFaultAt strong words index (E41 (index + 1))
    fault_nothing none begins = (
      (begins, here words index word stands (BeginsNoElement strong) none),
      spells_none words index word stands (no_beginning word (drop (index + 1) words) none) begins,
    )

    pub fault_internal : strong ≡ false → NamesInternal word → IsSetFaultAt strong words index (E45 (index + 1))
    fault_internal hidden is awaits = (
      (inl awaits, here words index word stands NamesInternal is, hidden),
      set_spells_none (no_internal word (drop (index + 1) words) hidden is) awaits,
    )

    pub fault_future : IsFuture word → IsEndFaultAt strong words index (E51 (index + 1))
    fault_future is awaits = (
      (awaits, here words index word stands IsFuture is),
      end_spells_none words index word stands (no_future word (drop (index + 1) words) is) awaits,
    )

    -- no word follows
    none_after : length words ≡ index + 1 → drop (index + 1) words ≡ []
    none_after last = drop_all (index + 1) words (omega arith)

    pub fault_until_alone : IsUntil word → length words ≡ index + 1 → IsFaultAt strong words index (E42 (index + 1))
    fault_until_alone is last begins = (
      (record { begins = begins; first = here words index word stands IsUntil is }, inr last),
      spells_none words index word stands (λ h. until_stops (subst UntilTail (none_after last) (until_tail word (drop (index + 1) words) is h))) begins,
    )

    pub fault_not_alone : IsNot word → length words ≡ index + 1 → IsSetFaultAt strong words index (E50 (index + 1))
    fault_not_alone is last awaits = (
      inl (awaits, here words index word stands IsNot is, inr last),
      set_spells_none (λ h. not_stops (subst NotTail (none_after last) (not_tail word (drop (index + 1) words) is h))) awaits,
    )

    -- after `<until>` a demand on the end may begin, and after `<while>` and `<refuses>` a set
    pub awaits_after_until : IsUntil word → BeginsElement strong words (index + 1) → AwaitsEnd strong words (index + 1 + 1)
    awaits_after_until is begins = inr (index + 1, refl, record { begins = begins; first = here words index word stands IsUntil is })

    pub awaits_after_while : IsWhile word → BeginsElement strong words (index + 1) → AwaitsSet strong words (index + 1 + 1)
    awaits_after_while is begins = inr (index + 1, refl, inl (record { begins = begins; first = here words index word stands IsWhile is }))

    pub awaits_after_refuses : IsRefuses word → AwaitsEnd strong words (index + 1) → AwaitsSet strong words (index + 1 + 1)
    awaits_after_refuses is awaits = inr (index + 1, refl, inr (awaits, here words index word stands IsRefuses is))

    -- where no set comes after the word, it begins none
    no_set_after : HasNoSetAfter strong words (index + 1) → WideSetHead (drop (index + 1) words) → ⊥
    no_set_after (inl none) h =
        let counted = none.counted in
        let same : none.before ≡ index + 1 = omega arith in
        let cut = drop_at words (index + 1) none.word (subst (λ i. slice_get words i ≡ Some none.word) same none.located) in
        wide_set_fails none.word _ none.such (subst WideSetHead cut h)
    no_set_after (inr last) h = no_wide_set_head (subst WideSetHead (none_after last) h)

    pub fault_while : IsWhile word → HasNoSetAfter strong words (index + 1) → IsFaultAt strong words index (E48 (index + 1))
    fault_while is none begins = (
      (record { begins = begins; first = here words index word stands IsWhile is }, none),
      spells_none words index word stands (λ h. no_set_after none (while_tail word (drop (index + 1) words) is h)) begins,
    )

    pub fault_refuses : IsRefuses word → HasNoSetAfter strong words (index + 1) → IsEndFaultAt strong words index (E50 (index + 1))
    fault_refuses is none awaits = (
      inr (awaits, here words index word stands IsRefuses is, none),
      end_spells_none words index word stands (λ h. no_set_after none (refuses_tail word (drop (index + 1) words) is h)) awaits,
    )

    module _ (second : Text) (follows : slice_get words (index + 1) ≡ Some second) where
      there : (Such : Text → Type 0) → Such second → HasWord words (index + 1 + 1) Such
      there Such such = record { before = index + 1; word = second; counted = refl; located = follows; such = such }

      -- the words after the first
      after : drop (index + 1) words ≡ second ∷ drop (index + 1 + 1) words
      after = drop_at words (index + 1) second follows

      pub fault_until_none : IsUntil word → EndsNoUntil strong second → IsFaultAt strong words index (E42 (index + 1))
      fault_until_none is none begins = (
        (record { begins = begins; first = here words index word stands IsUntil is }, inl (there (EndsNoUntil strong) none)),
        spells_none words index word stands (λ h. until_fails second _ none (subst UntilTail after (until_tail word (drop (index + 1) words) is h))) begins,
      )

      -- where the next word names no labels, `<not>` begins no set
      no_complement : IsNot word → (IsLabels strong second → ⊥) → ElementHead (word ∷ drop (index + 1) words) → ⊥
      no_complement is none h = not_fails second _ none (subst NotTail after (not_tail word (drop (index + 1) words) is h))

      pub fault_not_none : IsNot word → EndsNoComplement strong second → IsSetFaultAt strong words index (E50 (index + 1))
      fault_not_none is none awaits = (
        inl (awaits, here words index word stands IsNot is, inl (there (EndsNoComplement strong) none)),
        set_spells_none (no_complement is none.labels) awaits,
      )

      pub fault_not_internal : strong ≡ false → IsNot word → NamesInternal second → IsSetFaultAt strong words index (E45 (index + 1 + 1))
      fault_not_internal hidden is too awaits = (
        (inr (index + 1, refl, awaits, here words index word stands IsNot is), there NamesInternal too, hidden),
        set_spells_none (no_complement is (internal_no_labels strong second hidden too)) awaits,
      )

  -- no set begins with the word at an index
  pub no_set_here : (words : List Text) (index : ℕ) (word : Text) → slice_get words index ≡ Some word → BeginsNoSet strong word →
      HasNoSetAfter strong words index
  no_set_here words index word stands none =
      inl (record { before = index; word = word; counted = refl; located = stands; such = none })

  module _ (words : List Text) (index : ℕ) (p : Pattern) (stands : IsAfterPattern strong words (index + 1) p) where
    dead_spells_none : IsDemanded (last_refusal p.elements) → (q : Pattern) → PatternOf strong words q → ⊥
    dead_spells_none dead q spelled =
        let n = next words index p q stands spelled in
        dead_last p.elements n.element n.more dead (subst OnlyLastDemandsRefusal n.whole spelled.ends_last)

    full_spells_none : length p.elements ≡ 256 → (q : Pattern) → PatternOf strong words q → ⊥
    full_spells_none full q spelled =
        let n = next words index p q stands spelled in
        let long : length q.elements ≡ length p.elements + length (n.element ∷ n.more) = ap length n.whole ∙ length-append p.elements (n.element ∷ n.more) in
        let short = spelled.short in
        absurd (omega arith)

    -- where no element may follow, the fault has its cause
    pub full_cause : (fault : PatternFault) → IsAppendFault p.elements (index + 1) fault → IsCause strong words fault
    full_cause (E41 n) h = absurd h
    full_cause (E42 n) h = absurd h
    full_cause (E43 n) (dead, same) = (p, subst (λ i. IsAfterPattern strong words i p) (sym same) stands, dead)
    full_cause (E44 n) (goes, full, same) = (p, subst (λ i. IsAfterPattern strong words i p) (sym same) stands, goes, full)
    full_cause (E45 n) h = absurd h
    full_cause (E48 n) h = absurd h
    full_cause (E50 n) h = absurd h
    full_cause (E51 n) h = absurd h
    full_cause (E99 e) h = absurd h

    pub full_nothing : (fault : PatternFault) → IsAppendFault p.elements (index + 1) fault → SpellsNone strong words fault
    full_nothing (E41 n) h = absurd h
    full_nothing (E42 n) h = absurd h
    full_nothing (E43 n) h = dead_spells_none h.0
    full_nothing (E44 n) h = full_spells_none h.1
    full_nothing (E45 n) h = absurd h
    full_nothing (E48 n) h = absurd h
    full_nothing (E50 n) h = absurd h
    full_nothing (E51 n) h = absurd h
    full_nothing (E99 e) h = absurd h

-- a word in angle brackets goes on with no element that another one does
module _ (strong : Bool) (word rest : Text) (is : EqualsIgnoringCase word (60 ∷ rest)) where
  -- a word in angle brackets goes on no element that `<until>` begins, if it differs from `<not>`, `<deadlock>` and
  -- `<refuses>` and is no demand on what can come after the end
  pub angle_ends_none : Differ (codes "<not>") (60 ∷ rest) → Differ (codes "<deadlock>") (60 ∷ rest) → Differ (codes "<refuses>") (60 ∷ rest) →
      (IsFuture word → ⊥) → EndsNoUntil strong word
  angle_ends_none no_not no_deadlock no_refuses no_future = record {
    labels = λ n. labels_no_angle strong word rest n is;
    internal = λ n. internal_no_angle word rest n is;
    complement = λ h. apart word (codes "<not>") (60 ∷ rest) h is no_not;
    deadlock = λ h. apart word (codes "<deadlock>") (60 ∷ rest) h is no_deadlock;
    refuses = λ h. apart word (codes "<refuses>") (60 ∷ rest) h is no_refuses;
    future = no_future;
  }

  -- a word in angle brackets is none of those that demand something of what can come after the end
  pub angle_no_future : Differ (codes "<livelock>") (60 ∷ rest) → Differ (codes "<forever>") (60 ∷ rest) → Differ (codes "<never>") (60 ∷ rest) →
      IsFuture word → ⊥
  angle_no_future no_livelock no_forever no_never (inl h) = apart word (codes "<livelock>") (60 ∷ rest) h is no_livelock
  angle_no_future no_livelock no_forever no_never (inr (inl h)) = apart word (codes "<forever>") (60 ∷ rest) h is no_forever
  angle_no_future no_livelock no_forever no_never (inr (inr h)) = apart word (codes "<never>") (60 ∷ rest) h is no_never

  -- a word in angle brackets begins no set, if it differs from `<not>` and `<any>`
  pub angle_begins_no_set : Differ (codes "<not>") (60 ∷ rest) → Differ (codes "<any>") (60 ∷ rest) → BeginsNoSet strong word
  angle_begins_no_set no_not no_any = record {
    labels = λ n. labels_no_angle strong word rest n is;
    internal = λ n. internal_no_angle word rest n is;
    complement = λ h. apart word (codes "<not>") (60 ∷ rest) h is no_not;
    any = λ h. apart word (codes "<any>") (60 ∷ rest) h is no_any;
  }

  -- a word in angle brackets ends no set that `<not>` begins
  pub angle_names_none : EndsNoComplement strong word
  angle_names_none = record { labels = λ n. labels_no_angle strong word rest n is; internal = λ n. internal_no_angle word rest n is }

-- `<any>` goes on no element that `<until>` begins
pub any_ends_none : (strong : Bool) (word : Text) → IsAny word → EndsNoUntil strong word
any_ends_none strong word is = angle_ends_none strong word _ is refl refl refl (angle_no_future strong word _ is refl refl refl)

-- `<until>` goes on no element that `<until>` begins
pub until_ends_none : (strong : Bool) (word : Text) → IsUntil word → EndsNoUntil strong word
until_ends_none strong word is = angle_ends_none strong word _ is refl refl refl (angle_no_future strong word _ is refl refl refl)

-- `<while>` goes on no element that `<until>` begins
pub while_ends_none : (strong : Bool) (word : Text) → IsWhile word → EndsNoUntil strong word
while_ends_none strong word is = angle_ends_none strong word _ is refl refl refl (angle_no_future strong word _ is refl refl refl)

-- a word that begins no element goes on none that `<until>` begins
pub nothing_ends_none : (strong : Bool) (word : Text) → BeginsNoElement strong word → EndsNoUntil strong word
nothing_ends_none strong word none = record {
  labels = none.labels;
  internal = none.internal;
  complement = none.complement;
  deadlock = none.deadlock;
  refuses = none.refuses;
  future = none.future;
}

-- `<until>` begins no set
pub until_begins_no_set : (strong : Bool) (word : Text) → IsUntil word → BeginsNoSet strong word
until_begins_no_set strong word is = angle_begins_no_set strong word _ is refl refl

-- `<while>` begins no set
pub while_begins_no_set : (strong : Bool) (word : Text) → IsWhile word → BeginsNoSet strong word
while_begins_no_set strong word is = angle_begins_no_set strong word _ is refl refl

-- `<deadlock>` begins no set
pub deadlock_begins_no_set : (strong : Bool) (word : Text) → IsDeadlock word → BeginsNoSet strong word
deadlock_begins_no_set strong word is = angle_begins_no_set strong word _ is refl refl

-- `<refuses>` begins no set
pub refuses_begins_no_set : (strong : Bool) (word : Text) → IsRefuses word → BeginsNoSet strong word
refuses_begins_no_set strong word is = angle_begins_no_set strong word _ is refl refl

-- a demand on what can come after the end begins no set
pub future_begins_no_set : (strong : Bool) (word : Text) → IsFuture word → BeginsNoSet strong word
future_begins_no_set strong word (inl is) = angle_begins_no_set strong word _ is refl refl
future_begins_no_set strong word (inr (inl is)) = angle_begins_no_set strong word _ is refl refl
future_begins_no_set strong word (inr (inr is)) = angle_begins_no_set strong word _ is refl refl

-- a demand on what can come after the end ends no set that `<not>` begins
pub future_names_none : (strong : Bool) (word : Text) → IsFuture word → EndsNoComplement strong word
future_names_none strong word (inl is) = angle_names_none strong word _ is
future_names_none strong word (inr (inl is)) = angle_names_none strong word _ is
future_names_none strong word (inr (inr is)) = angle_names_none strong word _ is

-- a word that begins no element begins no set
pub nothing_begins_no_set : (strong : Bool) (word : Text) → BeginsNoElement strong word → BeginsNoSet strong word
nothing_begins_no_set strong word none = record { labels = none.labels; internal = none.internal; complement = none.complement; any = none.any }

-- a word that begins no element ends no set that `<not>` begins
pub nothing_names_none : (strong : Bool) (word : Text) → BeginsNoElement strong word → EndsNoComplement strong word
nothing_names_none strong word none = record { labels = none.labels; internal = none.internal }
