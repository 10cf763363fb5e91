-- Labels of a suite as they are gathered, one after the other.
use Rattle.std.specs.Prelude.{◌≡◌, ◌⊎◌, ℕ, List, Some, slice_get}
use Rattle.lotos_check.specs.NameLists.{In, Name}
use Rattle.lotos_store.specs.declared.label.Label.{Label as TermLabel}
use Rattle.lotos_store.specs.declared.label.Label.TheVariants.{Gate}
use Rattle.lotos_automaton.specs.Graphs.{Graph}
use Rattle.lotos_suite.specs.SuiteLabels.{IsOnTransition}

-- the label is the gate with this name
abbrev pub IsGateCalled : List Name → Name → TermLabel → Type 0
IsGateCalled names n l = (g : ℕ) × (l ≡ Gate g) × (slice_get names g ≡ Some n)

-- what is in the new list was in the old one, or is the gate with this name; and if there is one it is in the new list
pub record AddsGate (names : List Name) (n : Name) (old new : List TermLabel) : Type 0 where
  pub kept : (l : TermLabel) → In l old → In l new
  pub only : (l : TermLabel) → In l new → In l old ⊎ IsGateCalled names n l
  pub all : In n names → (l : TermLabel) × In l new × IsGateCalled names n l

-- the same for each name of a list
pub record AddsGates (names own : List Name) (old new : List TermLabel) : Type 0 where
  pub kept : (l : TermLabel) → In l old → In l new
  pub only : (l : TermLabel) → In l new → In l old ⊎ ((n : Name) × In n own × IsGateCalled names n l)
  pub all : (n : Name) → In n own → In n names → (l : TermLabel) × In l new × IsGateCalled names n l

-- the labels of the transitions of one state are added
pub record AddsRow (row : List (TermLabel × ℕ)) (old new : List TermLabel) : Type 0 where
  pub kept : (l : TermLabel) → In l old → In l new
  pub only : (l : TermLabel) → In l new → In l old ⊎ ((m : ℕ) × In (l, m) row)
  pub all : (l : TermLabel) (m : ℕ) → In (l, m) row → In l new

-- the labels of all transitions are added
pub record AddsTransitions (graph : Graph TermLabel) (old new : List TermLabel) : Type 0 where
  pub kept : (l : TermLabel) → In l old → In l new
  pub only : (l : TermLabel) → In l new → In l old ⊎ IsOnTransition graph l
  pub all : (l : TermLabel) → IsOnTransition graph l → In l new
