-- The lexeme at the start of a text: which one it is, and that there is no other.
use Rattle.std.proofs.Common.{◌≡◌, ℕ, ◌<◌, ◌≤◌, true, false, cond, List, [], ◌∷◌, ◌++◌, length, take, drop, Option, Some, None, nat_eq, slice_index, inl, inr, refl, sym, ap, ◌∙◌, subst, arith}
use Rattle.std.proofs.lemmas.Bool.{cases_Bool, cond-true, cond-false}
use Rattle.std.proofs.lemmas.List.{take-append-drop, length-take-le}
use Rattle.std.proofs.lemmas.List.Folds.{length-prefix_len}
use Rattle.std.proofs.Math.Seq.{take-append_seam}
use Rattle.std.specs.Char.{is_ascii_alphabetic}
use Rattle.std.specs.List.{prefix_len, starts_with}
use Rattle.lotos_text.specs.Lexing.{is_blank, is_word_byte, IsWord, classify, sign_text, StartsWith, comment_opening, IsComment, IsUnclosedComment}
use Rattle.lotos_text.specs.Lexemes.{longest_sign, IsNextLexeme, a_blank, a_comment, a_word, a_sign, no_end, no_piece}
use Rattle.lotos_text.specs.declared.lexer.Lexeme.{Lexeme}
use Rattle.lotos_text.specs.declared.lexer.Lexeme.TheVariants.{Blank, Comment, Token as a_token, Unclosed as Unended, Unknown}
use Rattle.lotos_text.specs.declared.token.TokenKind.TheVariants.{Sign as of_sign}
use Rattle.lotos_text.specs.declared.token.Sign.{Sign}
use Rattle.lotos_text.specs.declared.token.Sign.TheVariants as s
use Rattle.lotos_text.proofs.WordBytes.{letter_no_blank, front_word, front_ends, word_length}
use Rattle.lotos_text.proofs.Comments.{begins_true, begins_false, one_comment, comment_opens}
use Rattle.lotos_text.proofs.LongestSigns.{mark_found, no_mark_found, mark_of_longest, mark_no_blank, mark_no_letter}

-- a sign, or nothing
abbrev pub mark_piece : Option Sign → Lexeme
mark_piece None = Unknown
mark_piece (Some sign) = a_token (length (sign_text sign)) (of_sign sign)

-- the word of so many bytes
abbrev pub word_piece : List ℕ → ℕ → Lexeme
word_piece text n = a_token n (classify (take n text))

-- the lexeme at the start, computed
abbrev pub piece_of : List ℕ → Lexeme
piece_of text =
    cond (is_blank (slice_index text 0)) Blank
    (cond (is_ascii_alphabetic (slice_index text 0)) (word_piece text (prefix_len is_word_byte text)) (mark_piece (longest_sign text)))

-- the lexeme at each kind of first byte
piece_blank : (text : List ℕ) → is_blank (slice_index text 0) ≡ true → piece_of text ≡ Blank
piece_blank text h = cond-true (is_blank (slice_index text 0)) _ _ h

-- at a letter the computed lexeme is the word of all word bytes there
piece_word : (text : List ℕ) → is_ascii_alphabetic (slice_index text 0) ≡ true → piece_of text ≡ word_piece text (prefix_len is_word_byte text)
piece_word text h =
    cond-false (is_blank (slice_index text 0)) _ _ (letter_no_blank (slice_index text 0) h) ∙ cond-true (is_ascii_alphabetic (slice_index text 0)) _ _ h

-- at a byte that is no blank and no letter the computed lexeme is the longest sign there, if one begins there
piece_mark : (text : List ℕ) → is_blank (slice_index text 0) ≡ false → is_ascii_alphabetic (slice_index text 0) ≡ false →
    piece_of text ≡ mark_piece (longest_sign text)
piece_mark text h k = cond-false (is_blank (slice_index text 0)) _ _ h ∙ cond-false (is_ascii_alphabetic (slice_index text 0)) _ _ k

-- a word begins with a letter
word_head : (found rest : List ℕ) → IsWord found → is_ascii_alphabetic (slice_index (found ++ rest) 0) ≡ true
word_head [] rest h = absurd h
word_head (b ∷ bs) rest h = h.0

-- if no sign begins the text, none is found
mark_none : (text : List ℕ) → (StartsWith comment_opening text → ⊥) → ((sign : Sign) → (rest : List ℕ) → text ≡ sign_text sign ++ rest → ⊥) →
    longest_sign text ≡ None
mark_none text o h =
    (elim (longest_sign text) as (λ m. longest_sign text ≡ m → m ≡ None) [
      | None ↦ λ _. refl
      | Some sign ↦ λ e. let found = mark_found text sign o e in absurd (h sign found.0 found.1)
    ]) refl

-- if no comment opens, the lexeme at the start is the one that is computed
front_is : {text : List ℕ} {p : Lexeme} → (StartsWith comment_opening text → ⊥) → IsNextLexeme text p → p ≡ piece_of text
front_is {text} o (a_blank b rest e i) = sym (piece_blank text (ap (λ t. is_blank (slice_index t 0)) e ∙ i))
front_is {text} o (a_comment piece rest e i) = absurd (o (comment_opens text piece rest e i))
front_is {text} o (a_word found rest e i f) =
    let n = prefix_len is_word_byte text in
    let long : n ≡ length found = ap (prefix_len is_word_byte) e ∙ word_length found rest i f in
    let kind : take n text ≡ found = ap (λ m. take m text) long ∙ ap (take (length found)) e ∙ take-append_seam found rest in
    let head = ap (λ t. is_ascii_alphabetic (slice_index t 0)) e ∙ word_head found rest i in
    sym (piece_word text head ∙ cc)
front_is {text} o (a_sign sign rest e i) =
    let head = ap (λ t. is_blank (slice_index t 0)) e ∙ mark_no_blank sign rest in
    let letter = ap (λ t. is_ascii_alphabetic (slice_index t 0)) e ∙ mark_no_letter sign rest in
    sym (piece_mark text head letter ∙ ap mark_piece (mark_of_longest text sign rest e i))
front_is o (no_end u) = absurd (o u.opens)
front_is {text} o (no_piece b rest e i) =
    let head = ap (λ t. is_blank (slice_index t 0)) e ∙ i.no_blank in
    let letter = ap (λ t. is_ascii_alphabetic (slice_index t 0)) e ∙ i.no_letter in
    sym (piece_mark text head letter ∙ ap mark_piece (mark_none text o (λ sign more f. i.no_sign sign (more, sym e ∙ f))))

-- what a text with an opening at its front begins with
data Opened (text : List ℕ) : Lexeme → Type 0 where
  closed : (piece rest : List ℕ) → text ≡ piece ++ rest → IsComment piece → Opened text (Comment (length piece))
  unclosed : IsUnclosedComment text → Opened text Unended

-- if a comment opens, the lexeme at the start is the comment, or the opening of one that is not closed
front_opened : {text : List ℕ} {p : Lexeme} → StartsWith comment_opening text → IsNextLexeme text p → Opened text p
front_opened o (a_blank b rest e i) =
    let blank : is_blank 40 ≡ true = ap (λ t. is_blank (slice_index t 0)) (sym o.1 ∙ e) ∙ i in
    absurd cc
front_opened o (a_comment piece rest e i) = closed piece rest e i
front_opened o (a_word found rest e i f) =
    let head = ap (λ t. is_ascii_alphabetic (slice_index t 0)) (sym o.1 ∙ e) in
    let letter : is_ascii_alphabetic 40 ≡ true = head ∙ word_head found rest i in
    absurd cc
front_opened o (a_sign sign rest e i) = absurd (i.no_comment (o.0, sym e ∙ o.1))
front_opened o (no_end u) = unclosed u
front_opened o (no_piece b rest e i) = absurd (i.no_sign s.LeftParenthesis (42 ∷ o.0, sym e ∙ o.1))

-- a text with an opening at its front begins with one such lexeme only
one_opened : {text : List ℕ} {p q : Lexeme} → Opened text p → Opened text q → p ≡ q
one_opened {text} (closed a r e i) (closed b q f j) = ap Comment (one_comment a r b q text e f i j)
one_opened (closed a r e i) (unclosed u) = absurd (u.never a (r, e) i.closed)
one_opened (unclosed u) (closed b q f j) = absurd (u.never b (q, f) j.closed)
one_opened (unclosed u) (unclosed v) = refl

-- a text starts with one lexeme
pub one_front : {text : List ℕ} {p q : Lexeme} → IsNextLexeme text p → IsNextLexeme text q → p ≡ q
one_front {text} f g = elim (cases_Bool (starts_with nat_eq text comment_opening)) [
  | inl h ↦ let o = begins_true comment_opening text h in one_opened (front_opened o f) (front_opened o g)
  | inr h ↦ let o = begins_false comment_opening text h in front_is o f ∙ sym (front_is o g)
]

-- the lexeme at the start, from what `next_lexeme` tests
pub blank_front : (text : List ℕ) → is_blank (slice_index text 0) ≡ true → IsNextLexeme text Blank
blank_front [] h = absurd (cc)
blank_front (b ∷ bs) h = a_blank b bs refl h

-- a text that begins with a letter starts with the word of all word bytes there
pub word_front : (text : List ℕ) → is_ascii_alphabetic (slice_index text 0) ≡ true → IsNextLexeme text (word_piece text (prefix_len is_word_byte text))
word_front text h =
    let n = prefix_len is_word_byte text in
    let found = take n text in
    let whole = sym (take-append-drop n text) in
    subst (λ m. IsNextLexeme text (a_token m (classify found))) (length-prefix_len is_word_byte text)
    (a_word found (drop n text) whole (front_word text h) (front_ends text))

-- the text starts with the comment of so many bytes
pub comment_front : (text : List ℕ) (n : ℕ) → IsComment (take n text) → n ≤ length text → IsNextLexeme text (Comment n)
comment_front text n i h =
    subst (λ m. IsNextLexeme text (Comment m)) (length-take-le n text h) (a_comment (take n text) (drop n text) (sym (take-append-drop n text)) i)

-- the text starts with the opening of a comment that is not closed
pub open_front : (text : List ℕ) → IsUnclosedComment text → IsNextLexeme text Unended
open_front text u = no_end u

-- a text that begins with no comment opening starts with the longest sign there, if one is found
pub mark_front : (text : List ℕ) (sign : Sign) → starts_with nat_eq text comment_opening ≡ false → longest_sign text ≡ Some sign →
    IsNextLexeme text (a_token (length (sign_text sign)) (of_sign sign))
mark_front text sign o e = let found = mark_found text sign (begins_false comment_opening text o) e in a_sign sign found.0 found.1 found.2

-- if a text begins with a byte that is no blank and no letter, and no sign is found, no lexeme begins there
pub unknown_front : (text : List ℕ) → 0 < length text → is_blank (slice_index text 0) ≡ false → is_ascii_alphabetic (slice_index text 0) ≡ false →
    longest_sign text ≡ None → IsNextLexeme text Unknown
unknown_front [] h i k e = absurd (omega arith)
unknown_front (b ∷ bs) h i k e = no_piece b bs refl (record { no_blank = i; no_letter = k; no_sign = no_mark_found (b ∷ bs) e })

-- what `next_lexeme` cites
pub ruleset found_fronts = (blank_front, word_front, comment_front, open_front, mark_front, unknown_front)
