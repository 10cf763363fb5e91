-- Machines as tables: for each state by its number, and each label by its number, where it leads.
use Rattle.std.specs.Prelude.{◌≡◌, ◌↔◌, ◌<◌, ℕ, true, List, [], ◌∷◌, ◌++◌, Option, None, Some, length, slice_get}
use Rattle.lotos_listing.specs.Order.{Label}
use Rattle.lotos_listing.specs.PrefixWalk.{IsAscending}
use Rattle.lotos_suite.specs.Machines.{IsMachineOver, Machine}
use Rattle.lotos_suite.specs.Suites.{TellsApart}
use Rattle.lotos_suite.specs.SuiteLines.{AreFirstAccesses}
use Rattle.lotos_suite.specs.declared.moves.Move.{Move}

-- the entry of the state's row for the label
pub record HasEntry (rows : List (List (Option Move))) (state label : ℕ) (entry : Option Move) : Type 0 where
  pub row : List (Option Move)
  pub at : slice_get rows state ≡ Some row
  pub is : slice_get row label ≡ Some entry

-- a machine, its labels in order, and its access sequences
pub record Subject : Type 0 where
  pub machine : Machine
  pub labels : List Label
  pub access : List (List Label)

-- the label after the access sequence of the one state is the access sequence of the other
pub record IsAccessMove (s : Subject) (j : ℕ) (x : Label) (k : ℕ) : Type 0 where
  pub before : List Label
  pub from : slice_get s.access j ≡ Some before
  pub leads : slice_get s.access k ≡ Some (before ++ x ∷ [])

-- the entry has where the label leads from the state
abbrev pub IsMove : Subject → ℕ → Label → Option Move → Type 0
IsMove s j x None = s.machine.next j x ≡ None
IsMove s j x (Some move) =
    (s.machine.next j x ≡ Some move.state) × ((move.is_first ≡ true) ↔ IsAccessMove s j x move.state)

-- the machine has labels in order, first access sequences, and no two states that no sequence tells apart
pub record IsSubject (s : Subject) : Type 0 where
  pub over : IsMachineOver s.labels s.machine
  pub ascending : IsAscending s.labels
  pub access : AreFirstAccesses s.machine s.access
  pub apart : (j k : ℕ) → j < s.machine.states → k < s.machine.states →
      ((w : List Label) → TellsApart s.machine j k w → ⊥) → j ≡ k

-- the table has a row for each state, and an entry for each label
pub record IsTableOf (s : Subject) (rows : List (List (Option Move))) : Type 0 where
  pub counted : length rows ≡ s.machine.states
  pub wide : (j : ℕ) (row : List (Option Move)) → slice_get rows j ≡ Some row → length row ≡ length s.labels
  pub moves : (j i : ℕ) (x : Label) (entry : Option Move) → HasEntry rows j i entry →
      slice_get s.labels i ≡ Some x → IsMove s j x entry
