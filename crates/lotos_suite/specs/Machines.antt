-- Machines: automata that can do some labels in each of their states, each of which leads to one state.
use Rattle.std.specs.Prelude.{◌≡◌, ◌<◌, ℕ, List, [], ◌∷◌, Option, None, Some}
use Rattle.lotos_check.specs.NameLists.{In}
use Rattle.lotos_listing.specs.Order.{Label}

-- a machine with so many states, numbered from 0, where it starts; a state can do the labels that lead to some state
pub record Machine : Type 0 where
  pub states : ℕ
  pub next : ℕ → Label → Option ℕ

-- what the function makes of the number, if there is one
abbrev pub onward : Option ℕ → (ℕ → Option ℕ) → Option ℕ
onward None f = None
onward (Some q) f = f q

-- the state to which the labels of the sequence lead from this one, if it can do them one after the other
abbrev pub state_after : Machine → ℕ → List Label → Option ℕ
state_after m q [] = Some q
state_after m q (l ∷ s) = onward (m.next q l) (λ r. state_after m r s)

-- the state can do the sequence
abbrev pub CanDoFrom : Machine → ℕ → List Label → Type 0
CanDoFrom m q s = (r : ℕ) × (state_after m q s ≡ Some r)

-- the machine can do the sequence
abbrev pub CanDo : Machine → List Label → Type 0
CanDo m = CanDoFrom m 0

-- it has a state to start in, and its states can do none but these labels, and lead to states that it has
pub record IsMachineOver (labels : List Label) (m : Machine) : Type 0 where
  pub start : 0 < m.states
  pub below : (q r : ℕ) (l : Label) → m.next q l ≡ Some r → r < m.states
  pub known : (q r : ℕ) (l : Label) → m.next q l ≡ Some r → In l labels
