-- What the parts of the command `graph` return.
use Rattle.std.specs.Prelude.{◌≡◌, ◌⊎◌, List, [], length}
use Rattle.lotos_check.specs.Flat.{System}
use Rattle.lotos_check.specs.NameLists.{Name}
use Rattle.lotos_store.specs.declared.label.Label.{Label as TermLabel}
use Rattle.lotos_automaton.specs.BoundedBehaviours.{BoundedBehaviour}
use Rattle.lotos_automaton.specs.Graphs.{Graph}
use Rattle.lotos_output.specs.AutomatonText.{aut_text, transition_count}
use Rattle.lotos_tool.specs.ExplorationParts.{IsMemoryHalt}
use Rattle.lotos_tool.specs.ExplorationStops.{IsExplorationStop}
use Rattle.lotos_tool.specs.GraphOutcome.{IsAutomatonText, IsGraphQuestionOf}
use Rattle.lotos_tool.specs.declared.exploration.ExplorationHalt.{ExplorationHalt}
use Rattle.lotos_tool.specs.declared.graph_command.GraphText.{GraphText}
use Rattle.lotos_command.specs.declared.command.GraphRequest.{GraphRequest}

-- the graph as text, with its numbers of states and transitions
pub record IsTextOf (names : List Name) (graph : Graph TermLabel) (made : GraphText) : Type 0 where
  pub states : made.size.states ≡ length graph
  pub transitions : made.size.transitions ≡ transition_count graph
  pub text : made.text.items ≡ aut_text names graph

-- the automaton of all that can be observed, as text
abbrev pub IsAutomaton : BoundedBehaviour → GraphText → Type 0
IsAutomaton q made = IsAutomatonText q made.size made.text.items

-- the automaton of all that can be observed of the system
abbrev pub HasAutomaton : GraphRequest → System → GraphText → Type 0
HasAutomaton request system made = (q : BoundedBehaviour) × IsGraphQuestionOf request system q × IsAutomaton q made

-- why there is none of the system
abbrev pub HasHalt : GraphRequest → System → ExplorationHalt → Type 0
HasHalt request system halt = IsMemoryHalt halt
    ⊎ ((q : BoundedBehaviour) × IsGraphQuestionOf request system q × IsExplorationStop q halt.cause halt.place [])
