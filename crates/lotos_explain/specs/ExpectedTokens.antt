-- Which words and signs could be at an offset of a text.
use Rattle.std.specs.Prelude.{ℕ, List, ◌∷◌, ◌++◌, take}
use Rattle.lotos_text.specs.AstView.{DefinitionView}
use Rattle.lotos_text.specs.Spelled.{Spelled}

-- the bytes of the front, a blank, those of the word, a blank and some more are the text of a specification
pub record CouldFollow (front word : List ℕ) : Type 0 where
  pub more : List ℕ
  pub whole : DefinitionView
  pub spelled : Spelled (front ++ 32 ∷ word ++ 32 ∷ more) whole

-- the word could follow the bytes before the offset
abbrev pub CouldBeAt : List ℕ → ℕ → List ℕ → Type 0
CouldBeAt text at word = CouldFollow (take at text) word
