-- What the command `graph` finds, and where it may stop.
use Rattle.std.specs.Prelude.{◌≡◌, ℕ, List, length, None, Option}
use Rattle.std.specs.declared.string.String.{String}
use Rattle.std.specs.declared.alloc.Global.{Global}
use Rattle.lotos_check.specs.Flat.{System}
use Rattle.lotos_store.specs.declared.label.Label.{Label as TermLabel}
use Rattle.lotos_listing.specs.Order.{Label}
use Rattle.lotos_sets.specs.Behaviours.{IsBehaviourOf}
use Rattle.lotos_automaton.specs.Automata.{IsAutomatonOf}
use Rattle.lotos_automaton.specs.BoundedBehaviours.{BoundedBehaviour}
use Rattle.lotos_automaton.specs.Graphs.{Graph}
use Rattle.lotos_device.specs.ByteOutput.{IsBeginningOf}
use Rattle.lotos_outcome.specs.Calls.{Answering, Meaning}
use Rattle.lotos_outcome.specs.QuestionParts.{ReadsAsked}
use Rattle.lotos_outcome.specs.RefusalCauses.{IsInterfaceRefusal}
use Rattle.lotos_outcome.specs.declared.outcome.Stop.{Stop}
use Rattle.lotos_outcome.specs.declared.outcome.Stop.TheVariants.{Write}
use Rattle.lotos_output.specs.AutomatonText.{aut_text, transition_count}
use Rattle.lotos_tool.specs.ExplorationStops.{IsExplorationStop, IsNowhereStopped}
use Rattle.lotos_tool.specs.declared.findings.AutomatonSize.{AutomatonSize}
use Rattle.lotos_command.specs.declared.command.GraphRequest.{GraphRequest}

-- the question is about the behaviour of this system, with internal steps observed if the request says so, and has the
-- request's bounds
pub record IsGraphQuestionOf (request : GraphRequest) (system : System) (q : BoundedBehaviour) : Type 0 where
  pub behaviour : IsBehaviourOf system q.behaviour
  pub strong : q.behaviour.strong ≡ request.strong
  pub terms : q.terms ≡ request.terms
  pub states : q.states ≡ request.states

-- the question is about the system that is asked of the text that was read
pub record ReadsGraph (request : GraphRequest) (left left' : Option (List ℕ)) (q : BoundedBehaviour) : Type 0 where
  pub system : System
  pub read : ReadsAsked request.interface left left' system
  pub asks : IsGraphQuestionOf request system q

module _ (q : BoundedBehaviour) where
  -- the least deterministic automaton of all that can be observed, as text, with its numbers of states and transitions;
  -- the exploration stops at no sequence
  pub record IsAutomatonText (found : AutomatonSize) (bytes : List ℕ) : Type 0 where
    pub graph : Graph TermLabel
    pub access : List (List Label)
    pub automaton : IsAutomatonOf q.behaviour graph access
    pub states : found.states ≡ length graph
    pub transitions : found.transitions ≡ transition_count graph
    pub text : bytes ≡ aut_text q.behaviour.names graph
    pub clear : IsNowhereStopped q

  -- the exploration stops, with nothing written; or the output failed after a beginning of the text, perhaps all of it
  abbrev pub IsGraphStop : Stop → Option (String Global) → List ℕ → Type 0
  IsGraphStop Write None bytes =
      (found : AutomatonSize) × (whole : List ℕ) × IsAutomatonText found whole × IsBeginningOf whole bytes
  IsGraphStop cause place bytes = IsExplorationStop q cause place bytes

-- what `graph` may find, and where it may stop
abbrev pub graph_answering : Answering AutomatonSize (Option (String Global))
graph_answering = record {
  Question = BoundedBehaviour;
  Answers = IsAutomatonText;
  Stops = IsGraphStop;
  nowhere = None;
}

-- what `graph` does for the request
abbrev pub graph_meaning : GraphRequest → Meaning AutomatonSize (Option (String Global))
graph_meaning request = record {
  answering = graph_answering;
  Refuses = IsInterfaceRefusal request.interface;
  Reads = ReadsGraph request;
}
