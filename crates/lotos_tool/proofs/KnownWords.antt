-- Words that each name a label, of which none names an unknown gate.
use Rattle.std.proofs.Common.{◌≡◌, ℕ, Bool, false, List, [], ◌∷◌, sym, subst, inl, refl, arith}
use Rattle.std.specs.Prelude.{◌==◌, All, IsTrue}
use Rattle.std.specs.List.{AllByRecursion}
use Rattle.std.specs.Char.{is_ascii_alphabetic}
use Rattle.std.proofs.lemmas.Bool.Decides.{nat_tests}
use Rattle.std.proofs.lemmas.List.Elements.{All-cons, All-nil}
use Rattle.std.proofs.lemmas.List.Splits.{slice_split_none}
use Rattle.lotos_check.specs.Flat.{System}
use Rattle.lotos_check.specs.NameLists.{In}
use Rattle.lotos_check.proofs.JoinedLists.{in_front}
use Rattle.lotos_check.proofs.ListIndices.{in_get}
use Rattle.lotos_pattern.specs.PatternLabels.{Label}
use Rattle.lotos_pattern.specs.Spelling.{IsWord, NamesEach, Text, is_word_byte, parts_of}
use Rattle.lotos_pattern.proofs.LabelNames.{each_is_word}
use Rattle.lotos_terms.specs.TableView.{IsTableOf, TableView}
use Rattle.lotos_listing.specs.NamedLabels.{HaveGates}
use Rattle.lotos_outcome.specs.UnknownGates.{HasNoUnknownGate}

-- no letter is a comma
letter_no_comma : (b : ℕ) → IsTrue (is_ascii_alphabetic b) → (b == 44) ≡ false
letter_no_comma b letter = grind (arith, nat_tests)

-- no letter, digit or underscore is a comma
byte_no_comma : (b : ℕ) → IsTrue (is_word_byte b) → (b == 44) ≡ false
byte_no_comma b byte = grind (arith, nat_tests)

-- if each byte of a text is a letter, a digit or an underscore, none is a comma
no_comma : (bs : Text) → AllByRecursion (λ c. IsTrue (is_word_byte c)) bs → All (λ c. (c == 44) ≡ false) bs
no_comma [] h = All-nil (λ c. (c == 44) ≡ false)
no_comma (b ∷ bs) h = All-cons (λ c. (c == 44) ≡ false) b bs (byte_no_comma b h.0) (no_comma bs h.1)

-- a name is the one part of itself between commas
one_part : (word : Text) → IsWord word → parts_of word ≡ word ∷ []
one_part [] h = absurd h
one_part (b ∷ bs) h = slice_split_none (λ c. c == 44) (b ∷ bs) (All-cons (λ c. (c == 44) ≡ false) b bs (letter_no_comma b h.0) (no_comma bs h.1))

-- each gate that the words name is one of a table of the system
pub have_gates : (strong : Bool) (system : System) (table : TableView) (words : List Text) (s : List Label) → IsTableOf system table →
    NamesEach strong words s →
    HasNoUnknownGate system.formals words → HaveGates table.names words
have_gates strong system table words s is named known word there no_exit no_internal no_gate =
    let (k, at) = in_get words word there in
    let spelled = each_is_word strong words s k word at named in
    known k word at (
      word,
      subst (In word) (sym (one_part word spelled)) (inl refl),
      record {
        spelled = spelled;
        no_exit = no_exit;
        no_internal = no_internal;
        no_gate = λ own. no_gate ((is.names _).1 (in_front _ system.formals _ own));
      },
    )
