-- A text lexes in at most one way, or fails at one offset at most, and never both.
use Rattle.std.proofs.Common.{◌≡◌, ℕ, ◌+◌, List, [], ◌∷◌, length, drop, refl, sym, ap, ◌∙◌, subst, arith}
use Rattle.std.proofs.Math.Seq.{drop-append_seam}
use Rattle.lotos_text.specs.Lexing.{LexesTo, nothing, blank, comment, word, sign_token, Lexes, LexingFailsAt, at_byte, at_comment, sign_text, token, classify}
use Rattle.lotos_text.specs.Lexemes.{IsNextLexeme, a_blank, a_comment, a_word, a_sign, no_end, no_piece}
use Rattle.lotos_text.specs.declared.lexer.Lexeme.{Lexeme}
use Rattle.lotos_text.specs.declared.lexer.Lexeme.TheVariants.{Blank, Comment, Token as a_token, Unclosed as Unended, Unknown}
use Rattle.lotos_text.specs.declared.token.Token.{Token}
use Rattle.lotos_text.specs.declared.token.TokenKind.{TokenKind}
use Rattle.lotos_text.specs.declared.token.TokenKind.TheVariants.{Sign as of_sign}
use Rattle.lotos_text.proofs.NextLexemes.{one_front}
use Rattle.lotos_text.proofs.LexingSteps.{front_some}

-- no lexing goes on here: the text starts with no blank, comment or token
record Halts (text : List ℕ) : Type 0 where
  no_blank : IsNextLexeme text Blank → ⊥
  no_comment : (n : ℕ) → IsNextLexeme text (Comment n) → ⊥
  no_token : (n : ℕ) (kind : TokenKind) → IsNextLexeme text (a_token n kind) → ⊥

-- an empty text has no lexeme
nothing_in : {p : Lexeme} → IsNextLexeme [] p → ⊥
nothing_in f = omega (arith, front_some f)

-- no lexing goes on at the end of a text
halts_end : Halts []
halts_end = record { no_blank = nothing_in; no_comment = λ n f. nothing_in f; no_token = λ n kind f. nothing_in f }

-- no lexing goes on at a byte with which no lexeme begins
halts_unknown : {text : List ℕ} → IsNextLexeme text Unknown → Halts text
halts_unknown u = record {
  no_blank = λ f. cc (one_front u f);
  no_comment = λ n f. cc (one_front u f);
  no_token = λ n kind f. cc (one_front u f);
}

-- no lexing goes on at the opening of a comment that is not closed
halts_unended : {text : List ℕ} → IsNextLexeme text Unended → Halts text
halts_unended u = record {
  no_blank = λ f. cc (one_front u f);
  no_comment = λ n f. cc (one_front u f);
  no_token = λ n kind f. cc (one_front u f);
}

-- how a lexing up to the last text begins
data Next (at : ℕ) (text : List ℕ) (ts : List Token) (end : ℕ) (last : List ℕ) : Type 0 where
  ended : text ≡ last → ts ≡ [] → at ≡ end → Next at text ts end last
  blank_first : IsNextLexeme text Blank → LexesTo (at + 1) (drop 1 text) ts end last → Next at text ts end last
  comment_first : (n : ℕ) → IsNextLexeme text (Comment n) → LexesTo (at + n) (drop n text) ts end last → Next at text ts end last
  token_first : (n : ℕ) (kind : TokenKind) (us : List Token) → IsNextLexeme text (a_token n kind) → ts ≡ token at n kind ∷ us →
      LexesTo (at + n) (drop n text) us end last → Next at text ts end last

-- the lexeme at the start of a text begins its lexing
next : {at end : ℕ} {text last : List ℕ} {ts : List Token} → LexesTo at text ts end last → Next at text ts end last
next nothing = ended refl refl refl
next (blank {b} {text} i d) = blank_first (a_blank b text refl i) d
next (comment {at} {end} piece {text} {rest} {ts} i d) =
    comment_first (length piece) (a_comment piece text refl i)
    (subst (λ t. LexesTo (at + length piece) t ts end rest) (sym (drop-append_seam piece text)) d)
next (word {at} {end} found {text} {rest} {ts} i f d) =
    token_first (length found) (classify found) ts (a_word found text refl i f) refl
    (subst (λ t. LexesTo (at + length found) t ts end rest) (sym (drop-append_seam found text)) d)
next (sign_token {at} {end} sign {text} {rest} {ts} i d) =
    token_first (length (sign_text sign)) (of_sign sign) ts (a_sign sign text refl i) refl
    (subst (λ t. LexesTo (at + length (sign_text sign)) t ts end rest) (sym (drop-append_seam (sign_text sign) text)) d)

-- a lexing goes on after the token
record Past (at n : ℕ) (kind : TokenKind) (text : List ℕ) (ts : List Token) (end : ℕ) (last : List ℕ) : Type 0 where
  more : List Token
  begins : ts ≡ token at n kind ∷ more
  lexes : LexesTo (at + n) (drop n text) more end last

-- two lexings end alike
record Alike (us ts : List Token) (fin end : ℕ) (rest last : List ℕ) : Type 0 where
  tokens : us ≡ ts
  same_end : fin ≡ end
  left : rest ≡ last

-- a lexing stays where it halts
stays : {at end : ℕ} {text last : List ℕ} {ts : List Token} → Halts text → Next at text ts end last → Alike [] ts at end text last
stays h (ended e g p) = record { tokens = sym g; same_end = p; left = e }
stays h (blank_first f d) = absurd (h.no_blank f)
stays h (comment_first n f d) = absurd (h.no_comment n f)
stays h (token_first n kind us f e d) = absurd (h.no_token n kind f)

-- lexings that go on until they halt

module _ (end : ℕ) (last : List ℕ) (k : Halts last) where
  -- such a lexing takes the lexeme at the start
  past_blank : {at : ℕ} {text : List ℕ} {ts : List Token} → IsNextLexeme text Blank → Next at text ts end last →
      LexesTo (at + 1) (drop 1 text) ts end last
  past_blank f (ended e g p) = absurd (k.no_blank (subst (λ t. IsNextLexeme t Blank) e f))
  past_blank f (blank_first g d) = d
  past_blank f (comment_first n g d) = absurd (cc (one_front f g))
  past_blank f (token_first n kind us g e d) = absurd (cc (one_front f g))

  -- such a lexing goes on after the comment at the start
  past_comment : {at n : ℕ} {text : List ℕ} {ts : List Token} → IsNextLexeme text (Comment n) → Next at text ts end last →
      LexesTo (at + n) (drop n text) ts end last
  past_comment {n = n} f (ended e g p) = absurd (k.no_comment n (subst (λ t. IsNextLexeme t (Comment n)) e f))
  past_comment f (blank_first g d) = absurd (cc (one_front f g))
  past_comment {at} {n} {text} {ts} f (comment_first m g d) =
      let same = one_front g f in
      let length_same : m ≡ n = cc in
      subst (λ l. LexesTo (at + l) (drop l text) ts end last) length_same d
  past_comment f (token_first m kind us g e d) = absurd (cc (one_front f g))

  -- such a lexing has the token at the start, and goes on after it
  past_token : {at n : ℕ} {kind : TokenKind} {text : List ℕ} {ts : List Token} → IsNextLexeme text (a_token n kind) → Next at text ts end last →
      Past at n kind text ts end last
  past_token {n = n} {kind} f (ended e g p) = absurd (k.no_token n kind (subst (λ t. IsNextLexeme t (a_token n kind)) e f))
  past_token f (blank_first g d) = absurd (cc (one_front f g))
  past_token f (comment_first m g d) = absurd (cc (one_front f g))
  past_token {at} {n} {kind} {text} {ts} f (token_first m other us g e d) =
      let same = one_front g f in
      let length_same : m ≡ n = cc in
      let kind_same : other ≡ kind = cc in
      record {
        more = us;
        begins = e ∙ ap (λ l. token at l other ∷ us) length_same ∙ ap (λ l. token at n l ∷ us) kind_same;
        lexes = subst (λ l. LexesTo (at + l) (drop l text) us end last) length_same d;
      }

  -- one token more before both
  after_token : {us vs : List Token} {fin : ℕ} {rest : List ℕ} (t : Token) (ts : List Token) → ts ≡ t ∷ vs →
      Alike us vs fin end rest last → Alike (t ∷ us) ts fin end rest last
  after_token t ts e a = record { tokens = ap (λ l. t ∷ l) a.tokens ∙ sym e; same_end = a.same_end; left = a.left }

  -- two lexings of one text that go on until they halt are equal
  alike : {at fin : ℕ} {text rest : List ℕ} {us : List Token} → Halts rest → LexesTo at text us fin rest → (ts : List Token) →
      LexesTo at text ts end last → Alike us ts fin end rest last
  alike h nothing ts d = stays h (next d)
  alike h (blank {b} {text} i c) ts d = alike h c ts (past_blank (a_blank b text refl i) (next d))
  alike h (comment {at} piece {text} i c) ts d =
      let past = past_comment (a_comment piece text refl i) (next d) in
      alike h c ts (subst (λ t. LexesTo (at + length piece) t ts end last) (drop-append_seam piece text) past)
  alike h (word {at} found {text} i f c) ts d =
      let past = past_token (a_word found text refl i f) (next d) in
      after_token (token at (length found) (classify found)) ts past.begins
      (alike h c past.more (subst (λ t. LexesTo (at + length found) t past.more end last) (drop-append_seam found text) past.lexes))
  alike h (sign_token {at} sign {text} i c) ts d =
      let past = past_token (a_sign sign text refl i) (next d) in
      after_token (token at (length (sign_text sign)) (of_sign sign)) ts past.begins
      (alike h c past.more (subst (λ t. LexesTo (at + length (sign_text sign)) t past.more end last) (drop-append_seam (sign_text sign) text) past.lexes))

-- if a text fails to lex at an offset, its lexing halts there, before the end
record Stuck (text : List ℕ) (at : ℕ) : Type 0 where
  before : List Token
  rest : List ℕ
  lexes : LexesTo 0 text before at rest
  halts : Halts rest
  more : rest ≡ [] → ⊥

-- if a text fails to lex at an offset, it lexes up to it, halts there, and is not at its end
stuck : {text : List ℕ} {at : ℕ} → LexingFailsAt text at → Stuck text at
stuck (at_byte s) = record {
  before = s.before;
  rest = s.byte ∷ s.rest;
  lexes = s.lexes;
  halts = halts_unknown (no_piece s.byte s.rest refl s.no_lexeme);
  more = λ e. cc;
}
stuck (at_comment s) = record {
  before = s.before;
  rest = s.rest;
  lexes = s.lexes;
  halts = halts_unended (no_end s.unclosed);
  more = λ e. nothing_in (subst (λ t. IsNextLexeme t Unended) e (no_end s.unclosed));
}

-- a text lexes in one way
pub one_cut : (text : List ℕ) (ts us : List Token) → Lexes text ts → Lexes text us → ts ≡ us
one_cut text ts us c d = (alike (length text) [] halts_end halts_end c us d).tokens

-- a text fails to lex at one offset at most
pub one_offset : (text : List ℕ) (at other : ℕ) → LexingFailsAt text at → LexingFailsAt text other → at ≡ other
one_offset text at other s t =
    let first = stuck s in
    let second = stuck t in
    (alike other second.rest second.halts first.halts first.lexes second.before second.lexes).same_end

-- a text that lexes fails at no offset
pub sticks_uncut : (text : List ℕ) (ts : List Token) (at : ℕ) → Lexes text ts → LexingFailsAt text at → ⊥
sticks_uncut text ts at c s =
    let here = stuck s in
    here.more (alike (length text) [] halts_end here.halts here.lexes ts c).left
