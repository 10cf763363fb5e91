-- Which specification, or which two, a text spells.
use Rattle.std.specs.Prelude.{ℕ, ◌≤◌, List, length}
use Rattle.lotos_text.specs.Limits.{max_text_length, max_nesting}
use Rattle.lotos_text.specs.AstView.{DefinitionView}
use Rattle.lotos_text.specs.Lexing.{Lexes}
use Rattle.lotos_text.specs.Grammar.{SpellsPair, SpellsSpecification, Spelling}
use Rattle.lotos_text.specs.declared.token.Token.{Token}

-- the text is not too long, and lexes to tokens that spell this with no more nesting than is allowed
pub record IsSpelled {V : Type 0} (Spells : List ℕ → Spelling V) (text : List ℕ) (whole : V) : Type 0 where
  pub tokens : List Token
  pub nesting : ℕ
  pub short : length text ≤ max_text_length
  pub lexes : Lexes text tokens
  pub spells : Spells text nesting tokens whole
  pub shallow : nesting ≤ max_nesting

-- the text spells the specification
abbrev pub Spelled : List ℕ → DefinitionView → Type 0
Spelled = IsSpelled SpellsSpecification

-- the text spells two specifications, one after the other
abbrev pub SpelledPair : List ℕ → DefinitionView × DefinitionView → Type 0
SpelledPair = IsSpelled SpellsPair
