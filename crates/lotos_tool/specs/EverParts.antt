-- What the parts of the command `ever` return.
use Rattle.std.specs.Prelude.{◌≡◌, ◌++◌, ℕ, List, Option, None, Some}
use Rattle.std.specs.declared.vec.Vec.{Vec}
use Rattle.std.specs.declared.alloc.Global.{Global}
use Rattle.lotos_check.specs.Flat.{System}
use Rattle.lotos_check.specs.NameLists.{Name}
use Rattle.lotos_store.specs.Terms.{Term}
use Rattle.lotos_store.specs.declared.label.Label.{Label as TermLabel}
use Rattle.lotos_terms.specs.TableView.{TableView}
use Rattle.lotos_pattern.specs.declared.ever_pattern.EverPattern.{EverPattern}
use Rattle.lotos_listing.specs.Order.{Label}
use Rattle.lotos_listing.specs.Question.{ArePrinted}
use Rattle.lotos_ends.specs.declared.lasso.Lasso.{Lasso}
use Rattle.lotos_ever.specs.EndTests.{ReachesTooMany}
use Rattle.lotos_runs.specs.MatchQuestions.{IsMatchQuestionOf, MayEndFor, match_question_of}
use Rattle.lotos_ever.specs.declared.found.Halt.{Halt}
use Rattle.lotos_ever.specs.declared.found.Halt.TheVariants as halt
use Rattle.lotos_output.specs.NamedRuns.{DerivesNamed, writes_runs}
use Rattle.lotos_output.specs.OutputLines.{round_text_if, run_text}
use Rattle.lotos_tool.specs.EverOutcome.{AreTextsOf, EverQuestion, IsMatchLine, IsNamedRoundAt, IsNever, MatchTexts, pattern_of}
use Rattle.lotos_outcome.specs.declared.outcome.Stop.{Stop}
use Rattle.lotos_outcome.specs.declared.outcome.Stop.TheVariants.{Memory, States}
use Rattle.lotos_command.specs.declared.command.EverRequest.{EverRequest}
use Rattle.lotos_command.specs.declared.command.Runs.{Runs}

-- the question is about this system and this pattern
pub record IsEverQuestionFor (system : System) (p : EverPattern) (q : EverQuestion) : Type 0 where
  pub question : IsMatchQuestionOf system q.matches
  pub pattern : pattern_of q ≡ p

-- the question of a table and a pattern
abbrev pub question_about : TableView → EverPattern → EverQuestion
question_about table p = record { matches = match_question_of table p.pattern; kind = p.kind }

-- the texts are those of a derivation by the run with these labels that ends as the pattern demands, where those of
-- internal steps say what makes them
pub record AreNamedTextsOf (q : EverQuestion) (run : List TermLabel) (texts : MatchTexts) : Type 0 where
  pub last : Term
  pub derives : DerivesNamed q.matches.names q.matches.processes q.matches.start run texts.run last
  pub ends : MayEndFor q.matches q.kind last
  pub goes_round : IsNamedRoundAt q last texts.round

-- texts of the match with this run and this last term were appended, as they are to be written
pub record HasTexts (runs : Runs) (q : EverQuestion) (run : List Label) (last : Term) (old new : List ℕ) : Type 0 where
  pub texts : MatchTexts
  pub of_match : AreTextsOf runs q run last texts
  pub appended : new ≡ old ++ run_text (writes_runs runs) texts.run ++ round_text_if (writes_runs runs) texts.round

-- the line of the first match, or `None` if the question has no match
abbrev pub IsLineOf : EverRequest → EverQuestion → Option (Vec ℕ Global) → Type 0
IsLineOf request q None = IsNever q
IsLineOf request q (Some line) = IsMatchLine request.runs q line.items

-- the labels of a lasso have these printed texts, and where there is none there are no texts
abbrev pub IsRoundOf : List Name → Option Lasso → Option (List Label × List Label) → Type 0
IsRoundOf names None None = Unit {0}
IsRoundOf names None (Some round) = ⊥
IsRoundOf names (Some lasso) None = ⊥
IsRoundOf names (Some lasso) (Some (row, loop)) =
    ArePrinted names lasso.row.items row × ArePrinted names lasso.turn.items loop

-- the line of the first match of the pattern in the system, or `None` if there is no match
abbrev pub HasLine : EverRequest → System → EverPattern → Option (Vec ℕ Global) → Type 0
HasLine request system p line = (q : EverQuestion) × IsEverQuestionFor system p q × IsLineOf request q line

-- why there is no line: more states are reached than the request allows, or memory ran out
abbrev pub HasNoLine : EverRequest → System → EverPattern → Halt → Type 0
HasNoLine request system p halt.TooManyStates =
    (q : EverQuestion) × IsEverQuestionFor system p q × ReachesTooMany q.matches q.kind request.states
HasNoLine request system p halt.Memory = Unit {0}

-- the cause of a stop at a halt of the search
abbrev pub cause_of_halt : Halt → Stop
cause_of_halt halt.TooManyStates = States
cause_of_halt halt.Memory = Memory
