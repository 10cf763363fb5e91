-- The parts of a text between blanks, as an iterator yields them.
use Rattle.std.proofs.Common.{◌≡◌, ◌∙◌, ℕ, ◌<◌, ◌≤◌, Bool, true, false, List, [], ◌∷◌, ◌++◌, Some, None, ap, append-nil, append_assoc, length, get_or, ltb, refl, subst, sym, arith}
use Rattle.std.specs.Borrow.{Bor}
use Rattle.std.specs.Char.{is_ascii_whitespace}
use Rattle.std.specs.List.{All, AllPass, filter}
use Rattle.std.specs.Str.{NoCharPasses}
use Rattle.std.specs.Str.Iter.{IsAsciiSeparator, split_ascii_whitespace_steps, split_ascii_whitespace_text}
use borrow.Author.Tests.{tests}
use Rattle.std.proofs.lemmas.Bool.{ltb-false, ltb-true}
use Rattle.std.proofs.lemmas.Iterator.{YieldsList}
use Rattle.std.proofs.lemmas.Iterator.Consumers.{YieldsList-from_shown}
use Rattle.std.proofs.lemmas.List.Elements.{All-from_get_or, All-head, All-tail}
use Rattle.std.proofs.lemmas.List.Splits.{slice_split-cons_yes, slice_split_at, slice_split_none}
use Rattle.std.proofs.lemmas.Str.{NoCharPasses-byte}
use Rattle.std.specs.declared.str.SplitAsciiWhitespace.{SplitAscii}
use Rattle.clap.specs.Words.{Text}
use Rattle.lotos_command.specs.PatternWords.{has_bytes, parts_between_blanks}

-- a byte that is no ASCII character is no blank
high_is_no_blank : (b : ℕ) → 128 ≤ b → is_ascii_whitespace b ≡ false
high_is_no_blank b high = grind (arith, tests)

-- a byte is no blank, if it is none in case it is an ASCII character
byte_is_no_blank : (b : ℕ) (low : Bool) → ltb b 128 ≡ low → (b < 128 → is_ascii_whitespace b ≡ false)
    → is_ascii_whitespace b ≡ false
byte_is_no_blank b true is ascii = ascii (ltb-true b 128 is)
byte_is_no_blank b false is ascii = high_is_no_blank b (ltb-false b 128 is)

-- a text without a blank character has no blank byte
has_no_blank : (text : Text) → NoCharPasses is_ascii_whitespace text → All (λ b. is_ascii_whitespace b ≡ false) text
has_no_blank text none = All-from_get_or (λ b. is_ascii_whitespace b ≡ false) text 0
    (λ i inside. byte_is_no_blank (get_or text i 0) _ refl (NoCharPasses-byte is_ascii_whitespace text i none inside))

-- blanks before a text add no part
blanks_add_none : (gap text : Text) → AllPass is_ascii_whitespace gap → parts_between_blanks (gap ++ text) ≡ parts_between_blanks text
blanks_add_none [] text blank = refl
blanks_add_none (b ∷ gap) text blank =
    let is_blank : ℕ → Type 0 = λ c. is_ascii_whitespace c ≡ true in
    ap (filter has_bytes) (slice_split-cons_yes is_ascii_whitespace b (gap ++ text) (All-head is_blank b gap blank))
    ∙ blanks_add_none gap text (All-tail is_blank b gap blank)

-- blanks have no part
blanks_have_none : (gap : Text) → AllPass is_ascii_whitespace gap → parts_between_blanks gap ≡ []
blanks_have_none gap blank = ap parts_between_blanks (sym (append-nil gap)) ∙ blanks_add_none gap [] blank

-- bytes that are no blanks, up to a blank or the end, are the first part
first_part : (part gap rest : Text) → 0 < length part → All (λ b. is_ascii_whitespace b ≡ false) part → IsAsciiSeparator gap rest
    → parts_between_blanks (part ++ (gap ++ rest)) ≡ part ∷ parts_between_blanks rest
first_part [] gap rest some none ends = absurd (omega (arith, some))
first_part (a ∷ part) [] [] some none ends =
    ap parts_between_blanks (append-nil (a ∷ part)) ∙ ap (filter has_bytes) (slice_split_none is_ascii_whitespace (a ∷ part) none)
first_part (a ∷ part) [] (r ∷ rest) some none ends = absurd (omega (arith, ends.2 refl))
first_part (a ∷ part) (b ∷ []) rest some none ends = ap (filter has_bytes)
    (slice_split_at is_ascii_whitespace (a ∷ part) b rest none (All-head (λ c. is_ascii_whitespace c ≡ true) b [] ends.0))
first_part (a ∷ part) (b ∷ c ∷ gap) rest some none ends = absurd (omega (arith, ends.1))

-- the iterator yields the texts
abbrev pub Yields : SplitAscii → List Text → Type 0
Yields iterator rest = YieldsList split_ascii_whitespace_steps (λ x. x.now) iterator rest

-- the iterator yields the parts of what it has left
pub yields_parts : (iterator : SplitAscii) (text : Text) → split_ascii_whitespace_text iterator ≡ text
    → Yields iterator (parts_between_blanks text)
yields_parts iterator text is = subst (λ t. Yields iterator (parts_between_blanks t)) is
    (YieldsList-from_shown split_ascii_whitespace_steps (λ x. x.now) (λ s. parts_between_blanks (split_ascii_whitespace_text s))
    (λ s t ends. ap length (blanks_have_none (split_ascii_whitespace_text s) ends.0))
    (λ s part t cut. let laid = cut.3 in
    ap parts_between_blanks laid.2
    ∙ blanks_add_none laid.0 (part.now ++ (laid.1 ++ split_ascii_whitespace_text t)) laid.3
    ∙ first_part part.now laid.1 (split_ascii_whitespace_text t) cut.0 (has_no_blank part.now cut.1) laid.4)
    iterator)

-- one part more is added to the words
pub one_more_part : {iterator : SplitAscii} (later : SplitAscii) (words : List Text) (part : Bor Text) (more all rest : List Text)
    → Yields iterator rest → words ++ rest ≡ all → split_ascii_whitespace_steps iterator (Some part) later
    → more ≡ words ++ part.now ∷ [] → (left : List Text) × Yields later left × (more ++ left ≡ all)
one_more_part later words part more all [] yields whole step pushed = absurd (yields.runs part later step)
one_more_part later words part more all (text ∷ rest) yields whole step pushed =
    let next = yields.runs.1 part later step in (
      rest,
      record { runs = next.1 },
      ap (λ ts. ts ++ rest) pushed ∙ append_assoc words (part.now ∷ []) rest ∙ ap (λ t. words ++ t ∷ rest) next.0 ∙ whole,
    )

-- no part is left
pub no_more_part : {iterator : SplitAscii} (later : SplitAscii) (words all rest : List Text) → Yields iterator rest
    → words ++ rest ≡ all → split_ascii_whitespace_steps iterator None later → words ≡ all
no_more_part later words all [] yields whole step = sym (append-nil words) ∙ whole
no_more_part later words all (text ∷ rest) yields whole step = absurd (yields.runs.0 later step)
