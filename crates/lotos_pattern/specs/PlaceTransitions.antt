-- The place that a label leads to.
use Rattle.std.specs.Prelude.{◌≡◌, ◌↔◌, ◌⊎◌, ℕ, ◌+◌, ◌<◌, ◌≤◌, List, [], ◌∷◌, drop}
use Rattle.lotos_pattern.specs.PatternLabels.{Label}
use Rattle.lotos_pattern.specs.Patterns.{Element, IsJoin, Segment}
use Rattle.lotos_pattern.specs.NfaStates.{HasState, Place}
use Rattle.lotos_pattern.specs.declared.element.Transition.{Transition}
use Rattle.lotos_pattern.specs.declared.element.Transition.TheVariants as transition

-- at some state of the place, what follows has a segment for each of the elements left
pub record CanContinue (p : List Element) (place : Place) (s : List Label) : Type 0 where
  pub state : ℕ
  pub has : HasState place state
  pub joined : IsJoin Segment (drop state p) s

-- what may follow the label at a place is what may follow at the next place
abbrev pub IsSuccessorPlace : List Element → Place → Label → Place → Type 0
IsSuccessorPlace p place l onward = (s : List Label) → CanContinue p place (l ∷ s) ↔ CanContinue p onward s

-- `n` is the next state that is reached after state `k`, or `end`
pub record IsNextState (e : Element) (place : Place) (k end n : ℕ) : Type 0 where
  pub onward : k < n
  -- it is reached because the element may be empty, or as a state of the place
  pub reached : n < end → (Segment e [] × (n ≡ k + 1)) ⊎ HasState place n
  pub passes : Segment e [] → n ≡ k + 1
  pub skips_none : (j : ℕ) → k < j → HasState place j → n ≤ j

-- the place has gained the state that the transition leads to from state `n`, if it leads to one
abbrev pub HasTransition : Transition → ℕ → Place → Place → Type 0
HasTransition transition.Advance n old new = (k : ℕ) → HasState new k ↔ (HasState old k ⊎ (k ≡ n + 1))
HasTransition transition.Stay n old new = (k : ℕ) → HasState new k ↔ (HasState old k ⊎ (k ≡ n))
HasTransition transition.Reject n old new = (k : ℕ) → HasState new k ↔ HasState old k
