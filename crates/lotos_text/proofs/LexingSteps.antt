-- The lexing of a text so far, and the lexeme that extends it.
use Rattle.std.proofs.Common.{◌≡◌, ℕ, ◌+◌, ◌<◌, ◌≤◌, List, [], ◌∷◌, ◌++◌, length, drop, sym, ap, ◌∙◌, subst, arith, length-append, length-drop}
use Rattle.std.proofs.lemmas.List.{drop-drop, append-nil}
use Rattle.std.proofs.Math.ListN.{drop_of_length-le}
use Rattle.std.proofs.Math.Seq.{drop-append_seam}
use Rattle.lotos_text.specs.Lexing.{LexesTo, nothing, blank, comment, word, sign_token, Lexes, FailsAtByte, FailsAtComment, IsWord, sign_text, token}
use Rattle.lotos_text.specs.Lexemes.{IsNextLexeme, a_blank, a_comment, a_word, a_sign, no_end, no_piece}
use Rattle.lotos_text.specs.declared.lexer.Lexeme.{Lexeme}
use Rattle.lotos_text.specs.declared.lexer.Lexeme.TheVariants.{Blank, Comment, Token as a_token, Unclosed as Unended, Unknown}
use Rattle.lotos_text.specs.declared.token.Sign.{Sign}
use Rattle.lotos_text.specs.declared.token.Sign.TheVariants as s
use Rattle.lotos_text.specs.declared.token.Token.{Token}
use Rattle.lotos_text.specs.declared.token.TokenKind.{TokenKind}
use Rattle.lotos_text.proofs.Comments.{rest_of, rest_is, comment_some}

-- after the bytes at an offset the rest follows, and the text is at least as long as they reach
pub remainder : (text : List ℕ) (at : ℕ) (found rest : List ℕ) → drop at text ≡ found ++ rest → drop (at + length found) text ≡ rest
remainder text at found rest e = sym (drop-drop (length found) at text) ∙ ap (drop (length found)) e ∙ drop-append_seam found rest

-- bytes that a text has at an offset end at its length at most
pub fits : (text : List ℕ) (at : ℕ) (found rest : List ℕ) → at ≤ length text → drop at text ≡ found ++ rest → at + length found ≤ length text
fits text at found rest h e = omega (arith, ap length e, length-drop at text, length-append found rest)

-- one lexing goes on with another
join : {at mid end : ℕ} {text more rest : List ℕ} {ts us : List Token} → LexesTo at text ts mid more → LexesTo mid more us end rest →
    LexesTo at text (ts ++ us) end rest
join nothing d = d
join (blank i c) d = blank i (join c d)
join (comment piece i c) d = comment piece i (join c d)
join (word found i f c) d = word found i f (join c d)
join (sign_token sign i c) d = sign_token sign i (join c d)

-- the lexeme at the start is taken off
cut_blank : (text : List ℕ) (at : ℕ) → IsNextLexeme (drop at text) Blank → LexesTo at (drop at text) [] (at + 1) (drop (at + 1) text)
cut_blank text at (a_blank b rest e i) =
    let C : List ℕ → List ℕ → Type 0 = λ t r. LexesTo at t [] (at + 1) r in
    subst (λ t. C t (drop (at + 1) text)) (sym e) (subst (λ r. C (b ∷ rest) r) (sym (remainder text at (b ∷ []) rest e)) (blank i nothing))

-- the text from a comment on lexes to no tokens up to the end of the comment
cut_comment : (text : List ℕ) (at n : ℕ) → IsNextLexeme (drop at text) (Comment n) → LexesTo at (drop at text) [] (at + n) (drop (at + n) text)
cut_comment text at n (a_comment piece rest e i) =
    let C : List ℕ → List ℕ → Type 0 = λ t r. LexesTo at t [] (at + n) r in
    subst (λ t. C t (drop (at + n) text)) (sym e)
    (subst (λ r. C (piece ++ rest) r) (sym (remainder text at piece rest e)) (comment piece i nothing))

-- the text from a token on lexes to that token up to its end
cut_token : (text : List ℕ) (at n : ℕ) (kind : TokenKind) → IsNextLexeme (drop at text) (a_token n kind) →
    LexesTo at (drop at text) (token at n kind ∷ []) (at + n) (drop (at + n) text)
cut_token text at n kind (a_word found rest e i f) =
    let C : List ℕ → List ℕ → Type 0 = λ t r. LexesTo at t (token at n kind ∷ []) (at + n) r in
    subst (λ t. C t (drop (at + n) text)) (sym e) (subst (λ r. C (found ++ rest) r) (sym (remainder text at found rest e)) (word found i f nothing))
cut_token text at n kind (a_sign sign rest e i) =
    let C : List ℕ → List ℕ → Type 0 = λ t r. LexesTo at t (token at n kind ∷ []) (at + n) r in
    subst (λ t. C t (drop (at + n) text)) (sym e) (subst (λ r. C (sign_text sign ++ rest) r) (sym (remainder text at (sign_text sign) rest e))
    (sign_token sign i nothing))

-- a word and a sign have a byte at least
word_some : (found : List ℕ) → IsWord found → 0 < length found
word_some [] i = absurd i
word_some (b ∷ bs) i = omega arith

-- a sign has a byte at least
mark_some : (sign : Sign) → 0 < length (sign_text sign)
mark_some s.Semicolon = omega arith
mark_some _ = omega arith

-- a token has a byte at least
pub token_some : {text : List ℕ} {n : ℕ} {kind : TokenKind} → IsNextLexeme text (a_token n kind) → 0 < n
token_some (a_word found rest e i f) = word_some found i
token_some (a_sign sign rest e i) = mark_some sign

-- a text that starts with a lexeme is not empty
pub front_some : {text : List ℕ} {p : Lexeme} → IsNextLexeme text p → 0 < length text
front_some (a_blank b rest e i) = omega (arith, ap length e)
front_some (a_comment piece rest e i) = omega (arith, ap length e, length-append piece rest, comment_some piece i)
front_some (a_word found rest e i f) = omega (arith, ap length e, length-append found rest, word_some found i)
front_some (a_sign sign rest e i) = omega (arith, ap length e, length-append (sign_text sign) rest, mark_some sign)
front_some (no_end u) = omega (arith, ap length u.opens.1)
front_some (no_piece b rest e i) = omega (arith, ap length e)

-- a comment and a token at the front end in the text
comment_fits : (text : List ℕ) (at n : ℕ) → at ≤ length text → IsNextLexeme (drop at text) (Comment n) → at + n ≤ length text
comment_fits text at n h (a_comment piece rest e i) = fits text at piece rest h e

-- a token at an offset of a text ends at the length of the text at most
token_fits : (text : List ℕ) (at n : ℕ) (kind : TokenKind) → at ≤ length text → IsNextLexeme (drop at text) (a_token n kind) → at + n ≤ length text
token_fits text at n kind h (a_word found rest e i f) = fits text at found rest h e
token_fits text at n kind h (a_sign sign rest e i) = fits text at (sign_text sign) rest h e

-- up to the offset the text lexes to these tokens
pub record Reached (text : List ℕ) (at : ℕ) (found : List Token) : Type 0 where
  pub inside : at ≤ length text
  pub lexes : LexesTo 0 text found at (drop at text)

-- what the rest starts with is what the text has at the offset
front_at : (text : List ℕ) (at : ℕ) (p : Lexeme) → IsNextLexeme (rest_of text at) p → IsNextLexeme (drop at text) p
front_at text at p f = subst (λ t. IsNextLexeme t p) (rest_is text at) f

-- up to offset 0 a text lexes to no tokens
pub reached_start : (text : List ℕ) → Reached text 0 []
reached_start text = record { inside = omega arith; lexes = nothing }

-- the lexeme at the offset extends the lexing
pub reached_blank : (text : List ℕ) (at : ℕ) (found : List Token) → Reached text at found → IsNextLexeme (rest_of text at) Blank → Reached text (at + 1) found
reached_blank text at found r f =
    let g = front_at text at Blank f in
    record {
      inside = omega (arith, front_some g, length-drop at text);
      lexes = subst (λ ts. LexesTo 0 text ts (at + 1) (drop (at + 1) text)) (append-nil found) (join r.lexes (cut_blank text at g));
    }

-- a comment at the offset extends the lexing to its end, by no token
pub reached_comment : (text : List ℕ) (at n : ℕ) (found : List Token) → Reached text at found → IsNextLexeme (rest_of text at) (Comment n) →
    Reached text (at + n) found
reached_comment text at n found r f =
    let g = front_at text at (Comment n) f in
    record {
      inside = comment_fits text at n r.inside g;
      lexes = subst (λ ts. LexesTo 0 text ts (at + n) (drop (at + n) text)) (append-nil found) (join r.lexes (cut_comment text at n g));
    }

-- a token at the offset extends the lexing to its end, by that token
pub reached_token : (text : List ℕ) (at n : ℕ) (kind : TokenKind) (found : List Token) → Reached text at found →
    IsNextLexeme (rest_of text at) (a_token n kind) →
    Reached text (at + n) (found ++ token at n kind ∷ [])
reached_token text at n kind found r f =
    let g = front_at text at (a_token n kind) f in
    record { inside = token_fits text at n kind r.inside g; lexes = join r.lexes (cut_token text at n kind g) }

-- at its end the text is lexed
pub reached_end : (text : List ℕ) (at : ℕ) (found : List Token) → Reached text at found → length text ≤ at → Lexes text found
reached_end text at found r h =
    let e : at ≡ length text = omega (arith, r.inside) in
    subst (λ n. LexesTo 0 text found n []) e (subst (λ t. LexesTo 0 text found at t) (drop_of_length-le text h) r.lexes)

-- if no lexeme, or an unclosed comment, begins at the offset, the text fails to lex there
pub stuck_at_byte : (text : List ℕ) (at : ℕ) (found : List Token) → Reached text at found → IsNextLexeme (rest_of text at) Unknown →
    FailsAtByte text at
stuck_at_byte text at found r f = here (front_at text at Unknown f)
  where
    here : IsNextLexeme (drop at text) Unknown → FailsAtByte text at
    here (no_piece b rest e i) =
        record { before = found; byte = b; rest = rest; lexes = subst (λ t. LexesTo 0 text found at t) e r.lexes; no_lexeme = i }

-- if an unclosed comment begins at the offset, the text fails to lex there
pub stuck_at_comment : (text : List ℕ) (at : ℕ) (found : List Token) → Reached text at found → IsNextLexeme (rest_of text at) Unended →
    FailsAtComment text at
stuck_at_comment text at found r f = here (front_at text at Unended f)
  where
    here : IsNextLexeme (drop at text) Unended → FailsAtComment text at
    here (no_end u) = record { before = found; rest = drop at text; lexes = r.lexes; unclosed = u }
