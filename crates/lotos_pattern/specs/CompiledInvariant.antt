-- What the program keeps of a compiled pattern, beside what is seen of it.
use Rattle.std.specs.Prelude.{◌≡◌, ℕ, ◌<◌, ◌≤◌, List, Option, Some, length, slice_get}
use Rattle.lotos_pattern.specs.PatternLabels.{Label}
use Rattle.lotos_pattern.specs.Patterns.{Pattern}
use Rattle.lotos_pattern.specs.NfaStates.{Place}
use Rattle.lotos_pattern.specs.Places.{Accepts, IsPlaceOf}
use Rattle.lotos_pattern.specs.StepRows.{HasEntry}
use Rattle.lotos_pattern.specs.CompiledPatterns.{ArePlaces, CompiledView, IsFirstPlace, IsLabelAt, IsPlaceAt, LeadsTo}
use Rattle.lotos_pattern.specs.declared.place.End.{End}

-- whether the pattern matches the sequences that have this place
abbrev pub EndsAs : Pattern → Place → End → Type 0
EndsAs p place end = (r : List Label) → IsPlaceOf p r place → Accepts p r end

-- the invariant of compiled patterns, with the ends of the places and the rows of entries
pub record IsCompiled (c : CompiledView) (ends : List End) (rows : List (List ℕ)) : Type 0 where
  -- the place of the empty sequence has the number 0
  pub first : (place : Place) × IsPlaceAt c 0 place × IsFirstPlace c.pattern place
  pub places : ArePlaces c.places
  -- each place has its end
  pub enough_ends : length c.places ≤ length ends
  pub ended : (n : ℕ) (place : Place) → IsPlaceAt c n place →
      (end : End) × (slice_get ends n ≡ Some end) × EndsAs c.pattern place end
  -- entries are those of places, and what they say is true
  pub placed : (n k : ℕ) (to : Option ℕ) → HasEntry rows n k to → n < length c.places
  pub known : (n k : ℕ) (to : Option ℕ) → HasEntry rows n k to → (from : Place) (label : Label) →
      IsPlaceAt c n from → IsLabelAt c k label → LeadsTo c from label to
