-- Why a text spells no specification, or not two.
use Rattle.std.specs.Prelude.{◌≡◌, ℕ, ◌≤◌, ◌<◌, true, false, List, [], ◌∷◌, ◌++◌, length}
use Rattle.lotos_text.specs.Limits.{max_text_length, max_nesting}
use Rattle.lotos_text.specs.Lexing.{Lexes, FailsAtByte, FailsAtComment}
use Rattle.lotos_text.specs.Grammar.{IsPrefix, IsPrefixWithin, SpellsPair, SpellsSpecification, Spelling}
use Rattle.lotos_text.specs.ConstructOpenings.{opens_construct, count_openings, is_full_lotos}
use Rattle.lotos_text.specs.Spelled.{IsSpelled}
use Rattle.lotos_text.specs.declared.fault.TextFault.{TextFault}
use Rattle.lotos_text.specs.declared.fault.TextFault.TheVariants.{E01, E02, E03, E04, E05, E06, E07, E99}
use Rattle.lotos_text.specs.declared.token.Token.{Token}

-- the text is not too long, and lexing fails at a byte
pub record IsE01 (text : List ℕ) (at : ℕ) : Type 0 where
  pub short : length text ≤ max_text_length
  pub fails : FailsAtByte text at

-- the text is not too long, and lexing fails at a comment that is not closed
pub record IsE02 (text : List ℕ) (at : ℕ) : Type 0 where
  pub short : length text ≤ max_text_length
  pub fails : FailsAtComment text at

-- the text is not too long, and at the offset it has this token, after these
pub record IsOffsetOfToken (text : List ℕ) (at : ℕ) (before : List Token) (token : Token) : Type 0 where
  pub after : List Token
  pub short : length text ≤ max_text_length
  pub lexes : Lexes text (before ++ token ∷ after)
  pub offset : token.at ≡ at

-- what a fault of `tokens` says of the text; E99 says only that it is not too long
abbrev pub IsLexingFault : List ℕ → TextFault → Type 0
IsLexingFault text (E01 at) = IsE01 text at
IsLexingFault text (E02 at) = IsE02 text at
IsLexingFault text E03 = max_text_length < length text
IsLexingFault text (E04 at) = ⊥
IsLexingFault text (E05 at) = ⊥
IsLexingFault text (E06 at) = ⊥
IsLexingFault text (E07 at) = ⊥
IsLexingFault text (E99 e) = length text ≤ max_text_length

module _ {V : Type 0} (Spells : List ℕ → Spelling V) (text : List ℕ) where
  -- the tokens up to and including the one at the offset begin nothing that may be spelled, and that one is no keyword
  -- of full LOTOS
  pub record IsE04 (at : ℕ) : Type 0 where
    pub before : List Token
    pub token : Token
    pub located : IsOffsetOfToken text at before token
    pub never : IsPrefix (Spells text) (before ++ token ∷ []) → ⊥
    pub basic : is_full_lotos token.kind ≡ false

  -- the tokens up to and including the one at the offset begin nothing that may be spelled within the nesting limit,
  -- more of them open a construct than may be open, and that one does
  pub record IsE05 (at : ℕ) : Type 0 where
    pub before : List Token
    pub token : Token
    pub located : IsOffsetOfToken text at before token
    pub never : IsPrefixWithin (Spells text) max_nesting (before ++ token ∷ []) → ⊥
    pub opening : opens_construct token.kind ≡ true
    pub many : max_nesting < count_openings (before ++ token ∷ [])

  -- the text is not too long, all its tokens together spell nothing, and the offset is its length
  pub record IsE06 (at : ℕ) : Type 0 where
    pub tokens : List Token
    pub short : length text ≤ max_text_length
    pub lexes : Lexes text tokens
    pub offset : at ≡ length text
    pub never : (nesting : ℕ) (whole : V) → Spells text nesting tokens whole → ⊥

  -- the tokens up to and including the one at the offset begin nothing that may be spelled, and that one is a keyword
  -- of full LOTOS
  pub record IsE07 (at : ℕ) : Type 0 where
    pub before : List Token
    pub token : Token
    pub located : IsOffsetOfToken text at before token
    pub never : IsPrefix (Spells text) (before ++ token ∷ []) → ⊥
    pub full : is_full_lotos token.kind ≡ true

  -- what a fault says of the text; E99 says only that it is not too long
  abbrev pub IsFault : TextFault → Type 0
  IsFault (E01 at) = IsE01 text at
  IsFault (E02 at) = IsE02 text at
  IsFault E03 = max_text_length < length text
  IsFault (E04 at) = IsE04 at
  IsFault (E05 at) = IsE05 at
  IsFault (E06 at) = IsE06 at
  IsFault (E07 at) = IsE07 at
  IsFault (E99 e) = length text ≤ max_text_length

  -- the text spells nothing
  abbrev pub IsUnspelled : Type 0
  IsUnspelled = (whole : V) → IsSpelled Spells text whole → ⊥

  -- the fault is that memory ran out, or the text spells nothing
  abbrev pub SpellsNothing : TextFault → Type 0
  SpellsNothing (E99 e) = Unit {0}
  SpellsNothing (E01 at) = IsUnspelled
  SpellsNothing (E02 at) = IsUnspelled
  SpellsNothing E03 = IsUnspelled
  SpellsNothing (E04 at) = IsUnspelled
  SpellsNothing (E05 at) = IsUnspelled
  SpellsNothing (E06 at) = IsUnspelled
  SpellsNothing (E07 at) = IsUnspelled

-- what a fault of `parse` says of the text
abbrev pub IsFaultOfText : List ℕ → TextFault → Type 0
IsFaultOfText = IsFault SpellsSpecification

-- the fault is that memory ran out, or the text spells no specification
abbrev pub SpellsNoSpecification : List ℕ → TextFault → Type 0
SpellsNoSpecification = SpellsNothing SpellsSpecification

-- what a fault of `parse_pair` says of the text
abbrev pub IsFaultOfPair : List ℕ → TextFault → Type 0
IsFaultOfPair = IsFault SpellsPair

-- the fault is that memory ran out, or the text does not spell two specifications
abbrev pub SpellsNoPair : List ℕ → TextFault → Type 0
SpellsNoPair = SpellsNothing SpellsPair
