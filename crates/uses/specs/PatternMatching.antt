-- Whether words spell a pattern that matches a sequence.
use Rattle.std.specs.Prelude.{◌≡◌, List, false}
use Rattle.lotos_pattern.specs.PatternLabels.{Label}
use Rattle.lotos_pattern.specs.Patterns.{Pattern}
use Rattle.lotos_pattern.specs.Places.{Accepts}
use Rattle.lotos_pattern.specs.Spelling.{PatternOf, Text}
use Rattle.lotos_pattern.specs.declared.place.End.{End}

-- the words spell one pattern, in which internal steps are not observed, and the result says whether the pattern
-- matches the sequence, and whether the end of the sequence must then refuse a set of labels
pub record IsAnswer (words : List Text) (sequence : List Label) (answer : End) : Type 0 where
  pub pattern : Pattern
  pub spelled : PatternOf false words pattern
  pub only : (other : Pattern) → PatternOf false words other → other ≡ pattern
  pub accepts : Accepts pattern sequence answer
