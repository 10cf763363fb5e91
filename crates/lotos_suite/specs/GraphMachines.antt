-- The machine of a graph of labelled transitions.
use Rattle.std.specs.Prelude.{◌≡◌, ℕ, List, [], ◌∷◌, Option, None, Some, bytes_eq, if◌then◌else◌, length, map, slice_get}
use Rattle.std.specs.Option.{unwrap_or}
use Rattle.lotos_check.specs.NameLists.{In, Name}
use Rattle.lotos_store.specs.declared.label.Label.{Label as TermLabel}
use Rattle.lotos_terms.specs.TableView.{AreGateNames, IsPrintedAs}
use Rattle.lotos_listing.specs.Lookups.{text_of}
use Rattle.lotos_listing.specs.Order.{Label}
use Rattle.lotos_listing.specs.PrefixWalk.{IsAscending}
use Rattle.lotos_automaton.specs.Graphs.{Graph}
use Rattle.lotos_suite.specs.Machines.{Machine}

-- the state to which the first of the transitions leads whose label is printed as this one
abbrev pub state_by : List Name → List (TermLabel × ℕ) → Label → Option ℕ
state_by names [] x = None
state_by names (t ∷ list) x = if bytes_eq (text_of names t.0) x then Some t.1 else state_by names list x

-- the machine that has the states of the graph, and can do the labels of their transitions as they are printed
abbrev pub machine_of : List Name → Graph TermLabel → Machine
machine_of names graph = record {
  states = length graph;
  next = λ k x. state_by names (unwrap_or (slice_get graph k) []) x;
}

-- the labels as they are printed
abbrev pub label_texts : List Name → List TermLabel → List Label
label_texts names = map (text_of names)

-- labels of a suite for the graph: their texts ascend, and the labels of all transitions are among them
pub record AreSuiteLabels (names : List Name) (graph : Graph TermLabel) (labels : List TermLabel) : Type 0 where
  pub named : AreGateNames names
  pub printed : (l : TermLabel) → In l labels → IsPrintedAs names l (text_of names l)
  pub ascending : IsAscending (label_texts names labels)
  pub all : (k : ℕ) (list : List (TermLabel × ℕ)) (l : TermLabel) (m : ℕ) → slice_get graph k ≡ Some list →
      In (l, m) list → In l labels
