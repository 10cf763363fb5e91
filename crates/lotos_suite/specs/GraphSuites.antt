-- The suite for the automaton of a graph.
use Rattle.std.specs.Prelude.{◌≡◌, ℕ, List}
use Rattle.lotos_check.specs.NameLists.{Name}
use Rattle.lotos_store.specs.declared.label.Label.{Label as TermLabel}
use Rattle.lotos_listing.specs.Order.{Label}
use Rattle.lotos_automaton.specs.Graphs.{Graph}
use Rattle.lotos_suite.specs.GraphMachines.{label_texts, machine_of}
use Rattle.lotos_suite.specs.SuiteLines.{AreFirstParts, AreSuiteLines}
use Rattle.lotos_suite.specs.Suites.{Line, SuiteParts}

-- the lines are those of the suite for the machine of the graph over the labels, with these access sequences, and with
-- so many extra states
pub record IsSuiteOf (names : List Name) (graph : Graph TermLabel) (access : List (List Label))
    (labels : List TermLabel) (extra : ℕ) (lines : List Line) : Type 0 where
  pub parts : SuiteParts
  pub first : AreFirstParts (machine_of names graph) (label_texts names labels) extra parts
  pub same : parts.access ≡ access
  pub exact : AreSuiteLines (machine_of names graph) parts lines
