-- The automaton of all that can be observed, as text, or why there is none.
use Rattle.std.proofs.Common.{◌≡◌, ℕ, List, [], None, Option, false, inl, inr, refl, subst, sym}
use Rattle.std.proofs.KnownBytes.{Appends-nil, Keeps-refl}
use Rattle.std.specs.declared.string.String.{String}
use Rattle.std.specs.declared.alloc.Global.{Global}
use Rattle.std.specs.declared.vec.Vec.{Vec}
use Rattle.lotos_check.specs.Flat.{System}
use Rattle.lotos_check.specs.NameLists.{Name}
use Rattle.lotos_store.specs.Interning.{plain_lists}
use Rattle.lotos_store.specs.declared.label.Label.{Label as TermLabel}
use Rattle.lotos_listing.specs.Order.{Label}
use Rattle.lotos_sets.specs.FormSets.{FormSetsView}
use Rattle.lotos_automaton.specs.Automata.{IsAutomatonOf}
use Rattle.lotos_automaton.specs.BoundedBehaviours.{BoundedBehaviour, bounded_of}
use Rattle.lotos_outcome.specs.Calls.{Answered}
use Rattle.lotos_outcome.specs.Outcomes.{is_write}
use Rattle.lotos_outcome.specs.QuestionParts.{ReadsAsked}
use Rattle.lotos_outcome.specs.declared.outcome.Ended.{Ended}
use Rattle.lotos_outcome.specs.declared.outcome.Ended.TheVariants.{Stopped}
use Rattle.lotos_outcome.specs.declared.outcome.Stop.{Stop}
use Rattle.lotos_outcome.specs.declared.outcome.Stop.TheVariants.{Limit, Lines, Memory, States, Terms, Write}
use Rattle.lotos_output.specs.WholeOutput.{EndsWhole}
use Rattle.lotos_tool.specs.GraphOutcome.{IsGraphQuestionOf, ReadsGraph, graph_answering}
use Rattle.lotos_tool.specs.ExplorationParts.{AreSetsOf, IsHalt}
use Rattle.lotos_tool.specs.ExplorationStops.{IsExplorationStop, IsNowhereStopped}
use Rattle.lotos_tool.specs.GraphParts.{HasAutomaton, HasHalt, IsAutomaton, IsTextOf}
use Rattle.lotos_tool.specs.declared.findings.AutomatonSize.{AutomatonSize}
use Rattle.lotos_tool.specs.declared.exploration.ExplorationHalt.{ExplorationHalt}
use Rattle.lotos_tool.specs.declared.graph_command.GraphText.{GraphText}
use Rattle.lotos_command.specs.declared.command.GraphRequest.{GraphRequest}
use Rattle.lotos_tool.proofs.CallEnds.{whole_ends}
use Rattle.lotos_tool.proofs.ExplorationHalts.{stops_unwritten}

-- the sets of the system have the question that the request asks
pub question_of : (request : GraphRequest) (system : System) (v : FormSetsView) → AreSetsOf system request.strong request.terms v →
    IsGraphQuestionOf request system (bounded_of v request.states)
question_of request system v are = record { behaviour = are.behaviour; strong = are.observed; terms = are.bound; states = refl }

-- the text that is made of the automaton of the question's behaviour
pub is_made : (q : BoundedBehaviour) (items : List (Vec (TermLabel × ℕ) Global)) (access : List (List Label)) →
    IsAutomatonOf q.behaviour (plain_lists items) access → IsNowhereStopped q → (names : List Name)
    (lists : List (Vec (TermLabel × ℕ) Global)) → names ≡ q.behaviour.names → lists ≡ items → (made : GraphText) →
    IsTextOf names (plain_lists lists) made → IsAutomaton q made
is_made q items access is clear names lists same_names same made h =
    let all : IsTextOf q.behaviour.names (plain_lists items) made =
    subst (λ ls. IsTextOf q.behaviour.names (plain_lists ls) made) same (subst (λ ns. IsTextOf ns (plain_lists lists) made) same_names h) in
    record {
      graph = plain_lists items;
      access = access;
      automaton = is;
      states = all.states;
      transitions = all.transitions;
      text = all.text;
      clear = clear;
    }

-- the halt of a question that the request asks
pub halts_for : (request : GraphRequest) (system : System) (q : BoundedBehaviour) (h : ExplorationHalt) → IsGraphQuestionOf request system q → IsHalt q h →
    HasHalt request system h
halts_for request system q h asked halt = elim halt [
  | inl memory ↦ inl memory
  | inr stop ↦ inr (q, asked, stop)
]

-- a question about the system that was read is one that the request asks of the text
pub asks_graph : (request : GraphRequest) (left left' : Option (List ℕ)) (system : System) → ReadsAsked request.interface left left' system →
    (q : BoundedBehaviour) → IsGraphQuestionOf request system q → ReadsGraph request left left' q
asks_graph request left left' system read q is = record { system = system; read = read; asks = is }

module _ (request : GraphRequest) (system : System) (got : Option (List ℕ)) where
  -- the text of the automaton, or a beginning of it, was written
  pub text_written : (made : GraphText) (bytes : List ℕ) (got' : Option (List ℕ)) (ended : Ended AutomatonSize (Option (String Global))) →
      bytes ≡ made.text.items → HasAutomaton request system made → EndsWhole bytes made.size None got got' ended →
      Answered graph_answering (IsGraphQuestionOf request system) got got' ended
  text_written made bytes got' ended same (q, asked, is) h =
      whole_ends graph_answering (IsGraphQuestionOf request system) q made.text.items made.size None got got' ended asked is
      (λ part begun. (made.size, made.text.items, is, begun)) (subst (λ bs. EndsWhole bs made.size None got got' ended) same h)

  -- the exploration stopped, and nothing was written
  stop_written : (q : BoundedBehaviour) → IsGraphQuestionOf request system q → (cause : Stop) (place : Option (String Global)) →
      IsExplorationStop q cause place [] → Answered graph_answering (IsGraphQuestionOf request system) got got (Stopped cause place)
  stop_written q asked Terms place stop = record { question = q; bytes = []; asked = asked; said = stop; written = Appends-nil got }
  stop_written q asked States place stop = record { question = q; bytes = []; asked = asked; said = stop; written = Appends-nil got }
  stop_written q asked Limit place stop = absurd stop
  stop_written q asked Lines place stop = absurd stop
  stop_written q asked Memory place stop = absurd stop
  stop_written q asked Write place stop = absurd stop

  -- there is no automaton, and nothing was written
  pub halted : (h : ExplorationHalt) → HasHalt request system h →
      Answered graph_answering (IsGraphQuestionOf request system) got got (Stopped h.cause h.place)
  halted h halt = elim halt [
    | inl (cause, place) ↦
        subst (λ c. Answered graph_answering (IsGraphQuestionOf request system) got got (Stopped c h.place)) (sym cause) (inl (place, Keeps-refl got))
    | inr (q, asked, stop) ↦ stop_written q asked h.cause h.place stop
  ]

-- no automaton is missing because of the output
pub halts_unwritten : (request : GraphRequest) (system : System) (h : ExplorationHalt) → HasHalt request system h → is_write h.cause ≡ false
halts_unwritten request system h halt = elim halt [
  | inl (cause, place) ↦ subst (λ c. is_write c ≡ false) (sym cause) refl
  | inr (q, asked, stop) ↦ stops_unwritten q h.cause h.place stop
]
