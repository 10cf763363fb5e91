-- Lexing: a text as blanks, comments, words and signs. Which one begins at an offset depends only on the bytes from
-- there on.
use Rattle.std.specs.Prelude.{◌≡◌, ℕ, ◌+◌, ◌≤◌, Bool, false, ◌&&◌, ◌||◌, ◌==◌, nat_le, IsTrue, List, [], ◌∷◌, ◌++◌, length, map, codes, slice_range, if◌then◌else◌}
use Rattle.std.specs.List.{AllByRecursion}
use Rattle.std.specs.Char.{is_ascii_alphabetic, is_ascii_alphanumeric, to_ascii_lowercase}
use Rattle.std.specs.Str.{bytes_eq}
use Rattle.lotos_text.specs.declared.token.Token.{Token}
use Rattle.lotos_text.specs.declared.token.TokenKind.{TokenKind}
use Rattle.lotos_text.specs.declared.token.TokenKind.TheVariants.{Identifier, Reserved, Sign as of_sign}
use Rattle.lotos_text.specs.declared.token.Word.TheVariants as w
use Rattle.lotos_text.specs.declared.token.Sign.{Sign}
use Rattle.lotos_text.specs.declared.token.Sign.TheVariants as s

-- the bytes 9 to 13, and the blank (32)
abbrev pub is_blank : ℕ → Bool
is_blank b = (nat_le 9 b && nat_le b 13) || (b == 32)

-- a letter, a digit or an underscore
abbrev pub is_word_byte : ℕ → Bool
is_word_byte b = is_ascii_alphanumeric b || (b == 95)

-- a letter, then letters, digits and underscores
abbrev pub IsWord : List ℕ → Type 0
IsWord [] = ⊥
IsWord (b ∷ bs) = IsTrue (is_ascii_alphabetic b) × AllByRecursion (λ c. IsTrue (is_word_byte c)) bs

-- a word that is followed by this text ends there
abbrev pub EndsWord : List ℕ → Type 0
EndsWord [] = Unit {0}
EndsWord (b ∷ bs) = is_word_byte b ≡ false

-- the word is this one, in any mix of cases
abbrev pub equals_ignoring_case : List ℕ → List ℕ → Bool
equals_ignoring_case word found = bytes_eq word (map to_ascii_lowercase found)

-- the keywords, in any mix of cases; every other word is an identifier
abbrev pub classify : List ℕ → TokenKind
classify found =
    if equals_ignoring_case (codes "specification") found then Reserved w.SpecificationWord
    else if equals_ignoring_case (codes "endspec") found then Reserved w.EndspecWord
    else if equals_ignoring_case (codes "behaviour") found then Reserved w.BehaviourWord
    else if equals_ignoring_case (codes "behavior") found then Reserved w.BehaviourWord
    else if equals_ignoring_case (codes "process") found then Reserved w.ProcessWord
    else if equals_ignoring_case (codes "endproc") found then Reserved w.EndprocWord
    else if equals_ignoring_case (codes "where") found then Reserved w.WhereWord
    else if equals_ignoring_case (codes "stop") found then Reserved w.StopWord
    else if equals_ignoring_case (codes "exit") found then Reserved w.ExitWord
    else if equals_ignoring_case (codes "noexit") found then Reserved w.NoexitWord
    else if equals_ignoring_case (codes "hide") found then Reserved w.HideWord
    else if equals_ignoring_case (codes "in") found then Reserved w.InWord
    else if equals_ignoring_case (codes "i") found then Reserved w.IWord
    else if equals_ignoring_case (codes "accept") found then Reserved w.AcceptWord
    else if equals_ignoring_case (codes "choice") found then Reserved w.ChoiceWord
    else if equals_ignoring_case (codes "let") found then Reserved w.LetWord
    else if equals_ignoring_case (codes "par") found then Reserved w.ParWord
    else if equals_ignoring_case (codes "library") found then Reserved w.LibraryWord
    else if equals_ignoring_case (codes "type") found then Reserved w.TypeWord
    else Identifier

-- the bytes of each sign
abbrev pub sign_text : Sign → List ℕ
sign_text s.Semicolon = codes ";"
sign_text s.Colon = codes ":"
sign_text s.Define = codes ":="
sign_text s.Comma = codes ","
sign_text s.LeftParenthesis = codes "("
sign_text s.RightParenthesis = codes ")"
sign_text s.LeftBracket = codes "["
sign_text s.RightBracket = codes "]"
sign_text s.Choice = codes "[]"
sign_text s.Disable = codes "[>"
sign_text s.Enable = codes ">>"
sign_text s.LeftSync = codes "|["
sign_text s.Full = codes "||"
sign_text s.Interleave = codes "|||"
sign_text s.Bar = codes "|"

-- the text starts with `front`
abbrev pub StartsWith : List ℕ → List ℕ → Type 0
StartsWith front text = (rest : List ℕ) × (text ≡ front ++ rest)

-- `(*`, which opens a comment (ISO)
abbrev pub comment_opening : List ℕ
comment_opening = codes "(*"

-- `*)`, which closes a comment (ISO)
abbrev pub comment_closing : List ℕ
comment_closing = codes "*)"

-- an opening, any bytes, and a closing after them (ISO)
abbrev pub IsClosedComment : List ℕ → Type 0
IsClosedComment piece = (body : List ℕ) × (piece ≡ comment_opening ++ body ++ comment_closing)

-- a comment: `(*`, any bytes, and the first `*)` after the opening. No proper prefix is closed, so comments do not
-- nest, and a second `(*` opens nothing (ISO)
pub record IsComment (piece : List ℕ) : Type 0 where
  pub closed : IsClosedComment piece
  pub first : (front rest : List ℕ) → piece ≡ front ++ rest → IsClosedComment front → rest ≡ []

-- a comment opens at the start of the text, and no prefix of the text closes it (ISO)
pub record IsUnclosedComment (text : List ℕ) : Type 0 where
  pub opens : StartsWith comment_opening text
  pub never : (front : List ℕ) → StartsWith front text → IsClosedComment front → ⊥

-- before this rest the sign is the longest that matches, and no comment opens there
pub record IsSignToken (sign : Sign) (rest : List ℕ) : Type 0 where
  pub longest : (other : Sign) → StartsWith (sign_text other) (sign_text sign ++ rest) →
      length (sign_text other) ≤ length (sign_text sign)
  pub no_comment : StartsWith comment_opening (sign_text sign ++ rest) → ⊥

-- the token of this kind and length in bytes, at the offset
abbrev pub token : ℕ → ℕ → TokenKind → Token
token at len kind = record { at = at; end = at + len; kind = kind }

-- from the first offset to the second the text lexes to blanks (bytes 9 to 13 and 32), comments, complete words, and
-- signs, and the rest follows; the tokens are the words and signs, with their offsets
pub data LexesTo : ℕ → List ℕ → List Token → ℕ → List ℕ → Type 0 where
  nothing : {at : ℕ} {text : List ℕ} → LexesTo at text [] at text
  blank : {at end b : ℕ} {text rest : List ℕ} {ts : List Token} →
      IsTrue (is_blank b) → LexesTo (at + 1) text ts end rest → LexesTo at (b ∷ text) ts end rest
  comment : {at end : ℕ} (piece : List ℕ) {text rest : List ℕ} {ts : List Token} →
      IsComment piece → LexesTo (at + length piece) text ts end rest → LexesTo at (piece ++ text) ts end rest
  word : {at end : ℕ} (found : List ℕ) {text rest : List ℕ} {ts : List Token} →
      IsWord found → EndsWord text → LexesTo (at + length found) text ts end rest →
      LexesTo at (found ++ text) (token at (length found) (classify found) ∷ ts) end rest
  sign_token : {at end : ℕ} (sign : Sign) {text rest : List ℕ} {ts : List Token} →
      IsSignToken sign text → LexesTo (at + length (sign_text sign)) text ts end rest →
      LexesTo at (sign_text sign ++ text) (token at (length (sign_text sign)) (of_sign sign) ∷ ts) end rest

-- the whole text lexes to these tokens
abbrev pub Lexes : List ℕ → List Token → Type 0
Lexes text ts = LexesTo 0 text ts (length text) []

-- no lexeme begins with the byte before this rest: it is no blank and no letter, and no sign begins there
pub record NoLexemeAt (b : ℕ) (rest : List ℕ) : Type 0 where
  pub no_blank : is_blank b ≡ false
  pub no_letter : is_ascii_alphabetic b ≡ false
  pub no_sign : (sign : Sign) → StartsWith (sign_text sign) (b ∷ rest) → ⊥

-- the bytes before the offset lex, and no lexeme begins at the byte there
pub record FailsAtByte (text : List ℕ) (at : ℕ) : Type 0 where
  pub before : List Token
  pub byte : ℕ
  pub rest : List ℕ
  pub lexes : LexesTo 0 text before at (byte ∷ rest)
  pub no_lexeme : NoLexemeAt byte rest

-- the bytes before the offset lex, and a comment that is not closed opens there
pub record FailsAtComment (text : List ℕ) (at : ℕ) : Type 0 where
  pub before : List Token
  pub rest : List ℕ
  pub lexes : LexesTo 0 text before at rest
  pub unclosed : IsUnclosedComment rest

-- lexing fails at the offset: at a byte where no lexeme begins, or at a comment that is not closed
pub data LexingFailsAt (text : List ℕ) (at : ℕ) : Type 0 where
  at_byte : FailsAtByte text at → LexingFailsAt text at
  at_comment : FailsAtComment text at → LexingFailsAt text at

-- the token's offsets are ordered and inside the text, and the bytes of an identifier are a word
pub record IsTokenIn (text : List ℕ) (t : Token) : Type 0 where
  pub ordered : t.at ≤ t.end
  pub inside : t.end ≤ length text
  pub word : t.kind ≡ Identifier → IsWord (slice_range text t.at t.end)

-- each token of the list is one of the text
abbrev pub AreTokensIn : List ℕ → List Token → Type 0
AreTokensIn text ts = AllByRecursion (IsTokenIn text) ts
