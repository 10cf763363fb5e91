-- What the command `suite` finds, and where it may stop.
use Rattle.std.specs.Prelude.{◌≡◌, ◌<◌, ◌≤◌, ◌↔◌, ◌+◌, ℕ, List, [], ◌∷◌, ◌++◌, codes, length, None, Option, Some, string_bytes}
use Rattle.std.specs.List.{flat_map}
use Rattle.std.specs.Option.{option_map}
use Rattle.std.specs.declared.string.String.{String}
use Rattle.std.specs.declared.alloc.Global.{Global}
use Rattle.lotos_check.specs.Flat.{System}
use Rattle.lotos_check.specs.NameLists.{In, Name}
use Rattle.lotos_store.specs.declared.label.Label.{Label as TermLabel}
use Rattle.lotos_listing.specs.Order.{After, Label}
use Rattle.lotos_sets.specs.Behaviours.{CanBeObserved, IsBehaviourOf}
use Rattle.lotos_automaton.specs.Automata.{IsAutomatonOf}
use Rattle.lotos_automaton.specs.BoundedBehaviours.{BoundedBehaviour}
use Rattle.lotos_automaton.specs.Graphs.{Graph}
use Rattle.lotos_suite.specs.GraphMachines.{label_texts}
use Rattle.lotos_suite.specs.GraphSuites.{IsSuiteOf}
use Rattle.lotos_suite.specs.Machines.{CanDo, IsMachineOver, Machine}
use Rattle.lotos_suite.specs.SuiteLabels.{AreLabelsOf}
use Rattle.lotos_suite.specs.Suites.{Line, Passes, can, cannot, labels_of}
use Rattle.lotos_device.specs.ByteOutput.{IsBeginningOf}
use Rattle.lotos_outcome.specs.Calls.{Answering, Meaning}
use Rattle.lotos_outcome.specs.QuestionParts.{IsSignedMarkOf, ReadsAsked}
use Rattle.lotos_outcome.specs.RefusalCauses.{IsSuiteRefusal}
use Rattle.lotos_outcome.specs.declared.outcome.Stop.{Stop}
use Rattle.lotos_outcome.specs.declared.outcome.Stop.TheVariants.{Limit, Lines, Memory, States, Terms, Write}
use Rattle.lotos_output.specs.OutputLines.{sequence_text}
use Rattle.lotos_tool.specs.ExplorationStops.{IsExplorationStop, IsNowhereStopped}
use Rattle.lotos_tool.specs.ListingOutcome.{IsBelowLimit, last_or}
use Rattle.lotos_tool.specs.declared.findings.Listed.{Listed}
use Rattle.lotos_tool.specs.declared.findings.ListingPlace.{ListingPlace}
use Rattle.lotos_command.specs.declared.command.SuiteRequest.{SuiteRequest}

-- ---- what is asked

-- what was read for the request: the system that is asked, and the mark of the line, if one is given
pub record AreSuiteParts (request : SuiteRequest) (left left' : Option (List ℕ)) (system : System)
    (mark : Option (List Label)) : Type 0 where
  pub read : ReadsAsked request.interface left left' system
  pub marked : IsSignedMarkOf request.strong request.after mark

-- what a suite is asked: the behaviour with its bounds; the gates of the specification's own list; how many extra
-- states an implementation may have; the mark after which lines are written, and how many are at most
pub record SuiteQuestion : Type 0 where
  pub bounded : BoundedBehaviour
  pub own : List Name
  pub extra : ℕ
  pub mark : Option (List Label)
  pub limit : Option ℕ

-- the question is about the behaviour and the gates of this system, with internal steps observed if the request says
-- so; it has the request's numbers, and lines are written after this mark
pub record IsSuiteQuestionOf (request : SuiteRequest) (system : System) (mark : Option (List Label))
    (q : SuiteQuestion) : Type 0 where
  pub behaviour : IsBehaviourOf system q.bounded.behaviour
  pub strong : q.bounded.behaviour.strong ≡ request.strong
  pub terms : q.bounded.terms ≡ request.terms
  pub states : q.bounded.states ≡ request.states
  pub own : q.own ≡ system.formals
  pub extra : q.extra ≡ request.extra
  pub mark_is : q.mark ≡ mark
  pub limit : q.limit ≡ request.limit

-- the question that the request asks of the text that was read
pub record ReadsSuite (request : SuiteRequest) (left left' : Option (List ℕ)) (q : SuiteQuestion) : Type 0 where
  pub system : System
  pub mark : Option (List Label)
  pub parts : AreSuiteParts request left left' system mark
  pub asks : IsSuiteQuestionOf request system mark q

-- ---- lines as text

-- the line without its line feed: `+` and the labels that have to be possible, or `-` and those of which the last one
-- has to be impossible
abbrev pub signed_text : Line → List ℕ
signed_text (can s) = codes "+ " ++ sequence_text s
signed_text (cannot s l) = codes "- " ++ sequence_text (s ++ l ∷ [])

-- the lines, each ended by a line feed
abbrev pub signed_lines : List Line → List ℕ
signed_lines lines = flat_map (λ line. signed_text line ++ 10 ∷ []) lines

-- ---- what is found

-- the most lines that a suite may have
abbrev pub most_lines : ℕ
most_lines = 10000000

-- an implementation passes all lines exactly if it can do what can be observed and no more, if it has these labels, and
-- at most so many states
abbrev pub MissNothing : BoundedBehaviour → (labels : List Label) → (states : ℕ) → List Line → Type 0
MissNothing q labels states lines = (implementation : Machine) → IsMachineOver labels implementation →
    implementation.states ≤ states →
    ((line : Line) → In line lines → Passes implementation line) ↔
    ((s : List Label) → CanBeObserved q.behaviour s ↔ CanDo implementation s)

-- the graph is the automaton of all that can be observed, and the labels are the gates of the own list and all that can
-- come; the exploration of what can be observed stops nowhere
pub record AreSubjects (q : SuiteQuestion) (graph : Graph TermLabel) (access : List (List Label))
    (labels : List TermLabel) : Type 0 where
  pub automaton : IsAutomatonOf q.bounded.behaviour graph access
  pub named : AreLabelsOf q.bounded.behaviour.names q.own graph labels
  pub clear : IsNowhereStopped q.bounded

-- the lines are those of the suite for the automaton over the labels, in order, and they miss nothing
pub record IsWholeSuite (q : SuiteQuestion) (lines : List Line) : Type 0 where
  pub graph : Graph TermLabel
  pub access : List (List Label)
  pub labels : List TermLabel
  pub subjects : AreSubjects q graph access labels
  pub suite : IsSuiteOf q.bounded.behaviour.names graph access labels q.extra lines
  pub complete : MissNothing q.bounded (label_texts q.bounded.behaviour.names labels) (length graph + q.extra) lines

-- of all lines the later ones are those that come after the mark
pub record AreAfter (mark : Option (List Label)) (all later : List Line) : Type 0 where
  pub earlier : List Line
  pub parts : all ≡ earlier ++ later
  pub not_after : (line : Line) → In line earlier → After mark (labels_of line) → ⊥
  pub after : (line : Line) → In line later → After mark (labels_of line)

module _ (mark : Option (List Label)) (limit : Option ℕ) (all : List Line) where
  -- the text has all lines after the mark, so many, which are fewer than the limit
  pub record IsRestText (count : ℕ) (bytes : List ℕ) : Type 0 where
    pub later : List Line
    pub are : AreAfter mark all later
    pub below : IsBelowLimit (length later) limit
    pub counted : count ≡ length later
    pub text : bytes ≡ signed_lines later

  -- the text has the first lines after the mark, as many as the limit, and this is the last one
  pub record IsLimitedText (last : Option (String Global)) (bytes : List ℕ) : Type 0 where
    pub written : List Line
    pub left : List Line
    pub are : AreAfter mark all (written ++ left)
    pub reached : limit ≡ Some (length written)
    pub last_is : option_map string_bytes last ≡ option_map signed_text (last_or None written)
    pub text : bytes ≡ signed_lines written

-- this holds of the lines of the suite, which are no more than it may have
pub record OfSuite (q : SuiteQuestion) (Holds : List Line → Type 0) : Type 0 where
  pub all : List Line
  pub whole : IsWholeSuite q all
  pub few : length all ≤ most_lines
  pub holds : Holds all

-- exactly the lines of the suite that come after the mark
abbrev pub IsSuiteText : SuiteQuestion → Listed → List ℕ → Type 0
IsSuiteText q found bytes = OfSuite q (λ all. IsRestText q.mark q.limit all found.lines bytes)

-- as many of them as the limit
abbrev pub IsLimitedSuite : SuiteQuestion → Option (String Global) → List ℕ → Type 0
IsLimitedSuite q last bytes = OfSuite q (λ all. IsLimitedText q.mark q.limit all last bytes)

-- ---- where it stops

-- the suite has more lines than it may have
pub record HasTooManyLines (q : SuiteQuestion) : Type 0 where
  pub graph : Graph TermLabel
  pub access : List (List Label)
  pub labels : List TermLabel
  pub subjects : AreSubjects q graph access labels
  pub many : (lines : List Line) → IsSuiteOf q.bounded.behaviour.names graph access labels q.extra lines →
      most_lines < length lines

-- a beginning was written of what would have been written, perhaps all of it
pub data IsBegunSuite (q : SuiteQuestion) (bytes : List ℕ) : Type 0 where
  of_rest : (found : Listed) (text : List ℕ) → IsSuiteText q found text → IsBeginningOf text bytes →
      IsBegunSuite q bytes
  of_limited : (last : Option (String Global)) (text : List ℕ) → IsLimitedSuite q last text →
      IsBeginningOf text bytes → IsBegunSuite q bytes

-- no line was written last, and the exploration stopped at no sequence
abbrev pub IsNowhere : ListingPlace → Type 0
IsNowhere place = place ≡ record { last = None; prefix = None }

-- where a suite may stop: at the limit; where the exploration does, or for too many lines, with nothing written; or
-- because the output failed
abbrev pub IsSuiteStop : SuiteQuestion → Stop → ListingPlace → List ℕ → Type 0
IsSuiteStop q Limit place bytes = (place.prefix ≡ None) × IsLimitedSuite q place.last bytes
IsSuiteStop q Terms place bytes = (place.last ≡ None) × IsExplorationStop q.bounded Terms place.prefix bytes
IsSuiteStop q States place bytes = (place.last ≡ None) × IsExplorationStop q.bounded States place.prefix bytes
IsSuiteStop q Lines place bytes = IsNowhere place × HasTooManyLines q × (bytes ≡ [])
IsSuiteStop q Memory place bytes = ⊥
IsSuiteStop q Write place bytes = IsNowhere place × IsBegunSuite q bytes

-- what `suite` may find, and where it may stop
abbrev pub suite_answering : Answering Listed ListingPlace
suite_answering = record {
  Question = SuiteQuestion;
  Answers = IsSuiteText;
  Stops = IsSuiteStop;
  nowhere = record { last = None; prefix = None };
}

-- what `suite` does for the request
abbrev pub suite_meaning : SuiteRequest → Meaning Listed ListingPlace
suite_meaning request = record {
  answering = suite_answering;
  Refuses = IsSuiteRefusal request;
  Reads = ReadsSuite request;
}
