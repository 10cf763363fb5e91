-- The invariant of a checked specification.
use Rattle.std.specs.Prelude.{ℕ, List}
use Rattle.lotos_text.specs.AstView.{DefinitionView}
use Rattle.lotos_check.specs.Flat.{System}
use Rattle.lotos_check.specs.HiddenGates.{HasHidden}
use Rattle.lotos_check.specs.Acceptance.{AreRanks, IsAccepted}

-- the system is the flat system of some accepted specification, or has gates hidden in that; these are ranks of its
-- processes
pub record IsCheckedSystem (system : System) (ranks : List ℕ) : Type 0 where
  pub whole : DefinitionView
  pub flat : System
  pub accepted : IsAccepted whole flat
  pub hides : HasHidden flat system
  pub ranked : AreRanks system.processes ranks
