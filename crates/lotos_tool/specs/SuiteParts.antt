-- What the parts of the command `suite` return.
use Rattle.std.specs.Prelude.{◌≡◌, ◌⊎◌, ◌<◌, ℕ, Bool, true, false, List, [], ◌∷◌, MatchOption, None, Option, Some, codes, slice_get, take}
use Rattle.std.specs.Io.KnownBytes.{Appends}
use Rattle.lotos_check.specs.Flat.{System}
use Rattle.lotos_check.specs.NameLists.{In, Name}
use Rattle.lotos_store.specs.declared.label.Label.{Label as TermLabel}
use Rattle.lotos_terms.specs.TableView.{IsPrintedAs}
use Rattle.lotos_listing.specs.Lookups.{text_of}
use Rattle.lotos_listing.specs.Order.{Before, Label}
use Rattle.lotos_sets.specs.FormSets.{FormSetsView}
use Rattle.lotos_automaton.specs.Automata.{IsAutomatonOf}
use Rattle.lotos_automaton.specs.BoundedBehaviours.{bounded_of}
use Rattle.lotos_automaton.specs.Graphs.{Graph}
use Rattle.lotos_suite.specs.Suites.{Line, labels_of}
use Rattle.lotos_suite.specs.declared.suite.SuiteLine.{SuiteLine}
use Rattle.lotos_suite.specs.declared.suite_fault.SuiteFault.{SuiteFault}
use Rattle.lotos_suite.specs.declared.suite_fault.SuiteFault.TheVariants as fault
use Rattle.lotos_device.specs.ByteOutput.{AppendsBeginning}
use Rattle.lotos_outcome.specs.declared.outcome.Ended.{Ended}
use Rattle.lotos_outcome.specs.declared.outcome.Ended.TheVariants.{Done, Stopped}
use Rattle.lotos_outcome.specs.declared.outcome.Stop.TheVariants.{Limit, Lines, Memory, Write}
use Rattle.lotos_tool.specs.ExplorationParts.{IsMemoryHalt}
use Rattle.lotos_tool.specs.ExplorationStops.{IsExplorationStop, IsNowhereStopped}
use Rattle.lotos_tool.specs.SuiteOutcome.{HasTooManyLines, IsLimitedSuite, IsLimitedText, IsNowhere, IsRestText, IsSuiteQuestionOf, IsSuiteText, SuiteQuestion}
use Rattle.lotos_tool.specs.declared.exploration.ExplorationHalt.{ExplorationHalt}
use Rattle.lotos_tool.specs.declared.findings.Listed.{Listed}
use Rattle.lotos_tool.specs.declared.findings.ListingPlace.{ListingPlace}
use Rattle.lotos_tool.specs.declared.suite_command.SuiteText.{SuiteText}
use Rattle.lotos_command.specs.declared.command.SuiteRequest.{SuiteRequest}

-- ---- lines

-- all labels of the lines have printed texts
abbrev pub HavePrintedLabels : List Name → List SuiteLine → Type 0
HavePrintedLabels names lines = (line : SuiteLine) → In line lines → (l : TermLabel) → In l line.labels.items →
    IsPrintedAs names l (text_of names l)

-- the lines are in the order of their labels
abbrev pub AreInOrder : List Line → Type 0
AreInOrder lines = (j k : ℕ) (a b : Line) → j < k → slice_get lines j ≡ Some a → slice_get lines k ≡ Some b →
    Before (labels_of a) (labels_of b)

-- what a line with these labels, of which the last one may be refused, has before them
abbrev pub sign_text : List TermLabel → (refused : Bool) → List ℕ
sign_text [] refused = codes "+ "
sign_text (l ∷ labels) false = codes "+ "
sign_text (l ∷ labels) true = codes "- "

-- as many of the items as the limit allows
abbrev pub up_to : {X : Type 0} → Option ℕ → List X → List X
up_to None items = items
up_to (Some limit) items = take limit items

-- ---- the text

-- the text of what is written of all lines: as many as the limit, the last of which it then has, or fewer
abbrev pub IsTextOf : Option (List Label) → Option ℕ → List Line → SuiteText → Type 0
IsTextOf mark limit all made = MatchOption made.last (IsRestText mark limit all made.lines made.text.items)
    (λ last. IsLimitedText mark limit all (Some last) made.text.items)

-- the text of what is written for the question
abbrev pub IsMade : SuiteQuestion → SuiteText → Type 0
IsMade q made = MatchOption made.last (IsSuiteText q (record { lines = made.lines }) made.text.items)
    (λ last. IsLimitedSuite q (Some last) made.text.items)

-- and of a question about the system
abbrev pub HasMade : SuiteRequest → System → Option (List Label) → SuiteText → Type 0
HasMade request system mark made = (q : SuiteQuestion) × IsSuiteQuestionOf request system mark q × IsMade q made

-- the question about the behaviour of the sets, with these gates as the specification's own list
abbrev pub question_of : SuiteRequest → FormSetsView → List Name → Option (List Label) → SuiteQuestion
question_of request v own mark = record {
  bounded = bounded_of v request.states;
  own = own;
  extra = request.extra;
  mark = mark;
  limit = request.limit;
}

-- ---- why there is no text

-- the halt for this fault of a suite
abbrev pub suite_halt : SuiteFault → ExplorationHalt
suite_halt fault.TooManyLines = record { cause = Lines; place = None }
suite_halt fault.Memory = record { cause = Memory; place = None }

-- the suite has too many lines, and that is the cause
pub record IsLinesHalt (q : SuiteQuestion) (halt : ExplorationHalt) : Type 0 where
  pub cause : halt.cause ≡ Lines
  pub place : halt.place ≡ None
  pub many : HasTooManyLines q

-- the suite has too many lines, or memory ran out
abbrev pub IsSuiteFault : SuiteQuestion → ExplorationHalt → Type 0
IsSuiteFault q halt = IsMemoryHalt halt ⊎ IsLinesHalt q halt

-- the exploration stops, the suite has too many lines, or memory ran out
abbrev pub IsSuiteHalt : SuiteQuestion → ExplorationHalt → Type 0
IsSuiteHalt q halt = IsSuiteFault q halt ⊎ IsExplorationStop q.bounded halt.cause halt.place []

-- and so for a question about the system
abbrev pub HasSuiteHalt : SuiteRequest → System → Option (List Label) → ExplorationHalt → Type 0
HasSuiteHalt request system mark halt = IsMemoryHalt halt
    ⊎ ((q : SuiteQuestion) × IsSuiteQuestionOf request system mark q × IsSuiteHalt q halt)

-- ---- the automaton

-- the graph is the automaton of the question's behaviour, whose gates have these names; the gates of the own list are
-- these, and so many are the extra states
pub record IsGraphFor (names own : List Name) (graph : Graph TermLabel) (extra : ℕ) (q : SuiteQuestion) : Type 0 where
  pub access : List (List Label)
  pub automaton : IsAutomatonOf q.bounded.behaviour graph access
  pub clear : IsNowhereStopped q.bounded
  pub names_are : q.bounded.behaviour.names ≡ names
  pub own_are : q.own ≡ own
  pub extra_are : q.extra ≡ extra

-- ---- the output

-- how it ends after the text was written, or a beginning of it
abbrev pub EndsAsMade : SuiteText → (got got' : Option (List ℕ)) → Ended Listed ListingPlace → Type 0
EndsAsMade made got got' (Done found) =
    (made.last ≡ None) × (found.lines ≡ made.lines) × Appends got got' made.text.items
EndsAsMade made got got' (Stopped Limit place) =
    MatchOption made.last ⊥
    (λ last. (place ≡ record { last = Some last; prefix = None }) × Appends got got' made.text.items)
EndsAsMade made got got' (Stopped Write place) = IsNowhere place × AppendsBeginning got got' made.text.items
EndsAsMade made got got' _ = ⊥
