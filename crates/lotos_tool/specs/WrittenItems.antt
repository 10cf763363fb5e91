-- The items of a listing as they are written.
use Rattle.std.specs.Prelude.{◌≡◌, ℕ, List, Some, true}
use Rattle.lotos_check.specs.NameLists.{Name}
use Rattle.lotos_terms.specs.TableView.{AreGateNames}
use Rattle.lotos_listing.specs.Question.{ArePrinted}
use Rattle.lotos_listing.specs.declared.found.Found.{Found}
use Rattle.lotos_output.specs.ItemRuns.{AreRunTexts, RunsView, labels, omitted, origins, runs_of}
use Rattle.lotos_output.specs.NamedRuns.{writes_runs}
use Rattle.lotos_output.specs.OutputLines.{Item, line_of}
use Rattle.lotos_command.specs.declared.command.Runs.{Runs}
use Rattle.lotos_tool.specs.ListingQuestions.{ListingQuestion, by_cover, by_depth, by_length, matches_of}

-- the items of the listing have runs
abbrev pub HasRuns : ListingQuestion → Type 0
HasRuns (by_depth q) = Unit {0}
HasRuns (by_length q) = q.runs ≡ true
HasRuns (by_cover q) = ⊥

-- runs are written of the items of the listing as is wanted; with what makes internal steps by derivations of its own
-- question
abbrev pub AreRunsWith : ListingQuestion → RunsView → Type 0
AreRunsWith q omitted = Unit {0}
AreRunsWith q labels = Unit {0}
AreRunsWith q (origins m) = HasRuns q × (matches_of q ≡ Some m) × AreGateNames m.names

-- and these are what is wanted
pub record AreRunsFor (q : ListingQuestion) (wanted : Runs) (runs : RunsView) : Type 0 where
  pub wanted_are : runs_of runs ≡ wanted
  pub with : AreRunsWith q runs

-- the item that is written of what was found
pub record IsWrittenItem (names : List Name) (runs : RunsView) (found : Found) (item : Item) : Type 0 where
  pub sequence : ArePrinted names found.sequence.items item.sequence
  pub run : AreRunTexts names runs found.word.items item.run

-- its line
abbrev pub item_line : RunsView → Item → List ℕ
item_line runs item = line_of (writes_runs (runs_of runs)) item
