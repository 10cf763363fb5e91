-- What the parts of the exploration of all that can be observed return.
use Rattle.std.specs.Prelude.{◌≡◌, ◌⊎◌, ℕ, Bool, List, [], None, Some, string_bytes}
use Rattle.std.specs.Option.{option_map}
use Rattle.std.specs.declared.vec.Vec.{Vec}
use Rattle.std.specs.declared.alloc.Global.{Global}
use Rattle.lotos_check.specs.Flat.{System}
use Rattle.lotos_store.specs.Interning.{plain_lists}
use Rattle.lotos_store.specs.declared.label.Label.{Label as TermLabel}
use Rattle.lotos_listing.specs.Order.{Label}
use Rattle.lotos_sets.specs.Behaviours.{IsBehaviourOf, behaviour_of}
use Rattle.lotos_sets.specs.FormSets.{FormSetsView}
use Rattle.lotos_automaton.specs.Automata.{IsAutomatonOf}
use Rattle.lotos_automaton.specs.BoundedBehaviours.{BoundedBehaviour}
use Rattle.lotos_outcome.specs.declared.outcome.Stop.{Stop}
use Rattle.lotos_outcome.specs.declared.outcome.Stop.TheVariants.{Memory}
use Rattle.lotos_output.specs.OutputLines.{sequence_text}
use Rattle.lotos_tool.specs.ExplorationStops.{IsExplorationStop, IsNowhereStopped}
use Rattle.lotos_tool.specs.declared.exploration.ExplorationHalt.{ExplorationHalt}

-- sets of normal forms of the system, with internal steps observed or not, and with this bound on their normal forms
pub record AreSetsOf (system : System) (strong : Bool) (terms : ℕ) (v : FormSetsView) : Type 0 where
  pub behaviour : IsBehaviourOf system (behaviour_of v)
  pub observed : v.strong ≡ strong
  pub bound : v.bound ≡ terms

-- the graph is the automaton of the question's behaviour, whose exploration stops nowhere; the gates of the sets have
-- the names that the behaviour has
pub record IsExplored (q : BoundedBehaviour) (v : FormSetsView) (graph : Vec (Vec (TermLabel × ℕ) Global) Global)
    : Type 0 where
  pub access : List (List Label)
  pub automaton : IsAutomatonOf q.behaviour (plain_lists graph.items) access
  pub clear : IsNowhereStopped q
  pub names : v.table.names ≡ q.behaviour.names

-- memory ran out
abbrev pub IsMemoryHalt : ExplorationHalt → Type 0
IsMemoryHalt halt = (halt.cause ≡ Memory) × (halt.place ≡ None)

-- this is the cause, and the place has the text of the sequence; or memory ran out
abbrev pub IsHaltAt : Stop → List Label → ExplorationHalt → Type 0
IsHaltAt cause s halt =
    IsMemoryHalt halt ⊎ ((halt.cause ≡ cause) × (option_map string_bytes halt.place ≡ Some (sequence_text s)))

-- why there is no automaton: the exploration stops, or memory ran out
abbrev pub IsHalt : BoundedBehaviour → ExplorationHalt → Type 0
IsHalt q halt = IsMemoryHalt halt ⊎ IsExplorationStop q halt.cause halt.place []
