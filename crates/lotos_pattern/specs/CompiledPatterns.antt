-- Compiled patterns: the places that have come up, each with a number, and where a label leads from a place.
use Rattle.std.specs.Prelude.{◌≡◌, ℕ, ◌≤◌, List, [], ◌∷◌, ◌++◌, Option, None, Some, IfSome, MatchOption, length, slice_get}
use Rattle.lotos_pattern.specs.PatternLabels.{Label}
use Rattle.lotos_pattern.specs.Patterns.{Pattern, Viable}
use Rattle.lotos_pattern.specs.NfaStates.{IsPlaceValue, Place}
use Rattle.lotos_pattern.specs.NfaTransitions.{HasStatesAfter}
use Rattle.lotos_pattern.specs.Places.{IsPlaceOf}

-- the place that the label leads to from a place: that of each sequence of the place with the label after it, by
-- meaning and by NFA states; none if none of these sequences can be completed
pub record IsPlaceAfter (p : Pattern) (from : Place) (label : Label) (to : Option Place) : Type 0 where
  pub goes_on : (r : List Label) → IsPlaceOf p r from → MatchOption to (Viable p (r ++ label ∷ []) → ⊥)
      (λ q. Viable p (r ++ label ∷ []) × IsPlaceOf p (r ++ label ∷ []) q)
  pub states : (r : List Label) → HasStatesAfter p r from → IfSome to (HasStatesAfter p (r ++ label ∷ []))
  pub place_value : IfSome to IsPlaceValue

-- the place of the empty sequence, with the NFA states that it has; some sequence is matched
pub record IsFirstPlace (p : Pattern) (place : Place) : Type 0 where
  pub begins : IsPlaceOf p [] place
  pub viable : Viable p []
  pub states : HasStatesAfter p [] place

-- a compiled pattern: the pattern, the labels that it is compiled against, and the places that have come up, each at
-- the index that is its number
pub record CompiledView : Type 0 where
  pub pattern : Pattern
  pub labels : List Label
  pub places : List Place

-- the compiled pattern of these
abbrev pub view_of : Pattern → List Label → List Place → CompiledView
view_of p labels places = record { pattern = p; labels = labels; places = places }

-- the place has this number
abbrev pub IsPlaceAt : CompiledView → ℕ → Place → Type 0
IsPlaceAt c n place = slice_get c.places n ≡ Some place

-- the label has this number
abbrev pub IsLabelAt : CompiledView → ℕ → Label → Type 0
IsLabelAt c n label = slice_get c.labels n ≡ Some label

-- there may be more places; the pattern, the labels and the places of old numbers are the same
pub record KeepsPlaces (old new : CompiledView) : Type 0 where
  pub pattern : new.pattern ≡ old.pattern
  pub labels : new.labels ≡ old.labels
  pub places : (n : ℕ) (place : Place) → IsPlaceAt old n place → IsPlaceAt new n place
  pub more : length old.places ≤ length new.places

-- the label leads from the place to the one with this number, or, if there is no number, to none
abbrev pub LeadsTo : CompiledView → Place → Label → Option ℕ → Type 0
LeadsTo c from label None = IsPlaceAfter c.pattern from label None
LeadsTo c from label (Some n) = (to : Place) × IsPlaceAt c n to × IsPlaceAfter c.pattern from label (Some to)

-- no place has two numbers, and each is a value that the program has
pub record ArePlaces (places : List Place) : Type 0 where
  pub distinct : (j k : ℕ) (place : Place) → slice_get places j ≡ Some place → slice_get places k ≡ Some place → j ≡ k
  pub values : (n : ℕ) (place : Place) → slice_get places n ≡ Some place → IsPlaceValue place
