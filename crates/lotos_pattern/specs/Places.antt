-- What a place in a pattern means.
use Rattle.std.specs.Prelude.{◌↔◌, List, ◌++◌}
use Rattle.lotos_pattern.specs.PatternLabels.{Label}
use Rattle.lotos_pattern.specs.Patterns.{DemandsRefusal, Matches, Pattern}
use Rattle.lotos_pattern.specs.NfaStates.{CanFollow, Place}
use Rattle.lotos_pattern.specs.declared.place.End.{End}
use Rattle.lotos_pattern.specs.declared.place.End.TheVariants as end

-- the place is that of the sequence `r`: what completes `r` is what may follow at the place
unfoldable pub IsPlaceOf : Pattern → List Label → Place → Type 0
IsPlaceOf p r place = (s : List Label) → Matches p (r ++ s) ↔ CanFollow p place s

-- whether the pattern matches a sequence, and whether the end must then refuse a set
abbrev pub Accepts : Pattern → List Label → End → Type 0
Accepts p r end.No = Matches p r → ⊥
Accepts p r end.Yes = Matches p r × (DemandsRefusal p → ⊥)
Accepts p r end.IfRefuses = Matches p r × DemandsRefusal p
