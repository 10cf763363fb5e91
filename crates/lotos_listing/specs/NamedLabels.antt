-- Which gates words may name.
use Rattle.std.specs.Prelude.{List, map}
use Rattle.std.specs.Char.{to_ascii_uppercase}
use Rattle.lotos_check.specs.NameLists.{In, Name}
use Rattle.lotos_pattern.specs.PatternLabels.{internal, termination}
use Rattle.lotos_pattern.specs.Spelling.{EqualsIgnoringCase, Text}

-- a word that names a gate names one of these
abbrev pub HasGate : List Name → Text → Type 0
HasGate gates word = (EqualsIgnoringCase word termination → ⊥) → (EqualsIgnoringCase word internal → ⊥) →
    (In (map to_ascii_uppercase word) gates → ⊥) → ⊥

-- each word that names a gate names one of these
abbrev pub HaveGates : List Name → List Text → Type 0
HaveGates gates words = (word : Text) → In word words → HasGate gates word
