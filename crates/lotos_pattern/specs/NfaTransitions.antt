-- The NFA of a pattern: where a label leads, and the NFA states after a sequence.
use Rattle.std.specs.Prelude.{◌≡◌, ◌↔◌, ℕ, ◌+◌, List, [], ◌∷◌, ◌++◌, Some, slice_get}
use Rattle.lotos_pattern.specs.PatternLabels.{Label}
use Rattle.lotos_pattern.specs.Patterns.{Element, Pattern, Segment}
use Rattle.lotos_pattern.specs.NfaStates.{HasState, Place}
use Rattle.lotos_pattern.specs.Transitions.{IsTransition}
use Rattle.lotos_pattern.specs.declared.element.Transition.TheVariants as transition

-- the label leads from the one NFA state to the other: it is the complete segment of the element at the state, which is
-- then done; or it belongs to that segment, and the element is not done; or the element may be empty, and the label
-- leads there from the next state
pub data Leads (p : List Element) (l : Label) : ℕ → ℕ → Type 0 where
  advances : {j : ℕ} {e : Element} → slice_get p j ≡ Some e → IsTransition e l transition.Advance → Leads p l j (j + 1)
  stays : {j : ℕ} {e : Element} → slice_get p j ≡ Some e → IsTransition e l transition.Stay → Leads p l j j
  skips : {j k : ℕ} {e : Element} → slice_get p j ≡ Some e → Segment e [] → Leads p l (j + 1) k → Leads p l j k

-- the NFA state is one of those after the sequence: before the first label no element is done, and each label leads
-- from the states before it to those after it
pub data IsStateAfter (p : List Element) : List Label → ℕ → Type 0 where
  initial : IsStateAfter p [] 0
  led_to : {r : List Label} {l : Label} {j k : ℕ} → IsStateAfter p r j → Leads p l j k → IsStateAfter p (r ++ l ∷ []) k

-- the place has the NFA states after the sequence, and no others
abbrev pub HasStatesAfter : Pattern → List Label → Place → Type 0
HasStatesAfter p r place = (k : ℕ) → HasState place k ↔ IsStateAfter p.elements r k
