-- How the runs of a listing's items are written.
use Rattle.std.specs.Prelude.{◌≡◌, List}
use Rattle.lotos_check.specs.Flat.{System}
use Rattle.lotos_check.specs.NameLists.{Name}
use Rattle.lotos_store.specs.Terms.{Term}
use Rattle.lotos_store.specs.declared.label.Label.{Label as TermLabel}
use Rattle.lotos_pattern.specs.Patterns.{Pattern}
use Rattle.lotos_pattern.specs.declared.ever_pattern.EndKind.TheVariants as kinds
use Rattle.lotos_listing.specs.Order.{Label}
use Rattle.lotos_listing.specs.Question.{ArePrinted}
use Rattle.lotos_runs.specs.MatchQuestions.{IsMatchQuestionOf, MatchQuestion, MayEndFor, match_question_of}
use Rattle.lotos_ever.specs.NamedRuns.{EndsAsDemanded}
use Rattle.lotos_output.specs.NamedRuns.{DerivesNamed}
use Rattle.lotos_output.specs.declared.item_runs.ItemRuns.{ItemRuns}
use Rattle.lotos_output.specs.declared.item_runs.ItemRuns.TheVariants as written
use Rattle.lotos_output.specs.RunNames.{RunNamesView}
use Rattle.lotos_command.specs.declared.command.Runs.{Runs}
use Rattle.lotos_command.specs.declared.command.Runs.TheVariants as runs

-- how runs are written: not at all, by their labels, or as those of derivations of this question, with what makes
-- internal steps
pub data RunsView : Type 0 where
  omitted : RunsView
  labels : RunsView
  origins : MatchQuestion → RunsView

-- the question whose derivations are followed: that of the table and of the pattern
abbrev pub question_of : RunNamesView → MatchQuestion
question_of names = match_question_of names.table names.pattern

-- the view of it
abbrev pub runs_view : ItemRuns → RunsView
runs_view written.Omitted = omitted
runs_view written.Labels = labels
runs_view (written.Origins names) = origins (question_of names)

-- which runs are written, as the request has it
abbrev pub runs_of : RunsView → Runs
runs_of omitted = runs.Omitted
runs_of labels = runs.Labels
runs_of (origins q) = runs.Origins

-- the derivations that are followed are those of the system, and end as the pattern demands
abbrev pub IsAboutSystem : System → Pattern → RunsView → Type 0
IsAboutSystem system p omitted = Unit {0}
IsAboutSystem system p labels = Unit {0}
IsAboutSystem system p (origins q) = IsMatchQuestionOf system q × (q.pattern ≡ p)

-- the run with these labels can be written: if it is written with what makes internal steps, some derivation by it
-- ends as the pattern demands, and the question has the names
abbrev pub CanWriteRun : List Name → RunsView → List TermLabel → Type 0
CanWriteRun names omitted run = Unit {0}
CanWriteRun names labels run = Unit {0}
CanWriteRun names (origins q) run = (q.names ≡ names) × EndsAsDemanded q kinds.Refuses run

-- the texts are those of a derivation with these labels that ends as the pattern demands, where those of internal steps
-- say what makes them
pub record AreNamedTextsOf (q : MatchQuestion) (run : List TermLabel) (texts : List Label) : Type 0 where
  pub last : Term
  pub derives : DerivesNamed q.names q.processes q.start run texts last
  pub ends : MayEndFor q kinds.Refuses last

-- the texts are written of a run with these labels
abbrev pub AreRunTexts : List Name → RunsView → List TermLabel → List Label → Type 0
AreRunTexts names omitted run texts = ArePrinted names run texts
AreRunTexts names labels run texts = ArePrinted names run texts
AreRunTexts names (origins q) run texts = AreNamedTextsOf q run texts
