-- What is at an offset of a text.
use Rattle.std.specs.Prelude.{◌≡◌, ◌≢◌, ℕ, List, [], ◌∷◌, ◌++◌, drop, length, Some, slice_get}
use Rattle.std.specs.List.{AllByRecursion}
use Rattle.lotos_text.specs.Lexing.{FailsAtByte, FailsAtComment, Lexes, LexingFailsAt, StartsWith}
use Rattle.lotos_text.specs.declared.token.Token.{Token}
use Rattle.lotos_text.specs.declared.fault.TextFault.{TextFault}
use Rattle.lotos_text.specs.declared.fault.TextFault.TheVariants as fault
use Rattle.lotos_explain.specs.declared.token_description.Description.{Description}
use Rattle.lotos_explain.specs.declared.token_description.Description.TheVariants as what

-- the bytes of a byte order mark in UTF-8: 239, 187 and 191 (Unicode)
abbrev pub byte_order_mark : List ℕ
byte_order_mark = 239 ∷ 187 ∷ 191 ∷ []

-- the text lexes, and this token of it begins at the offset
pub record IsTokenAt (text : List ℕ) (at : ℕ) (token : Token) : Type 0 where
  pub before : List Token
  pub after : List Token
  pub lexes : Lexes text (before ++ token ∷ after)
  pub offset : token.at ≡ at

-- no token of the text begins at the offset, lexing does not fail there, and the text does not end there; a text that
-- does not lex has no tokens
pub record HasNothingAt (text : List ℕ) (at : ℕ) : Type 0 where
  pub no_token : (token : Token) → IsTokenAt text at token → ⊥
  pub no_failure : LexingFailsAt text at → ⊥
  pub no_end : at ≢ length text

-- the list has this token, and it is at the offset
pub record IsAmongAt (found : List Token) (at : ℕ) (token : Token) : Type 0 where
  pub before : List Token
  pub after : List Token
  pub joined : found ≡ before ++ token ∷ after
  pub offset : token.at ≡ at

-- no token of the list is at the offset
abbrev pub IsNoneAt : List Token → ℕ → Type 0
IsNoneAt found at = AllByRecursion (λ token. token.at ≢ at) found

-- lexing fails, and not at the offset
pub record FailsElsewhere (text : List ℕ) (at : ℕ) : Type 0 where
  pub other : ℕ
  pub fails : LexingFailsAt text other
  pub elsewhere : other ≢ at

-- lexing fails as this fault says
abbrev pub IsLexingFailure : List ℕ → TextFault → Type 0
IsLexingFailure text (fault.E01 at) = FailsAtByte text at
IsLexingFailure text (fault.E02 at) = FailsAtComment text at
IsLexingFailure text fault.E03 = ⊥
IsLexingFailure text (fault.E04 at) = ⊥
IsLexingFailure text (fault.E05 at) = ⊥
IsLexingFailure text (fault.E06 at) = ⊥
IsLexingFailure text (fault.E07 at) = ⊥
IsLexingFailure text (fault.E99 e) = ⊥

-- what the description of an offset means; a byte order mark is not described as a byte
abbrev pub IsDescribed : List ℕ → ℕ → Description → Type 0
IsDescribed text at (what.Token token) = IsTokenAt text at token
IsDescribed text at what.Comment = FailsAtComment text at
IsDescribed text at what.ByteOrderMark = FailsAtByte text at × StartsWith byte_order_mark (drop at text)
IsDescribed text at (what.Byte b) =
    FailsAtByte text at × (slice_get text at ≡ Some b) × (StartsWith byte_order_mark (drop at text) → ⊥)
IsDescribed text at what.End = at ≡ length text
IsDescribed text at what.Nothing = HasNothingAt text at
