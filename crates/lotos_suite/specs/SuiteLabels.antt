-- The labels of a suite: the gates of a specification's own list, and all others that can come.
use Rattle.std.specs.Prelude.{◌≡◌, ◌⊎◌, ℕ, List, Some, slice_get}
use Rattle.lotos_check.specs.NameLists.{In, Name}
use Rattle.lotos_store.specs.declared.label.Label.{Label as TermLabel}
use Rattle.lotos_terms.specs.TableView.{IsPrintedAs}
use Rattle.lotos_listing.specs.Lookups.{text_of}
use Rattle.lotos_automaton.specs.Graphs.{Graph}
use Rattle.lotos_suite.specs.GraphMachines.{AreSuiteLabels, label_texts}

-- some transition of the graph has the label
abbrev pub IsOnTransition : Graph TermLabel → TermLabel → Type 0
IsOnTransition graph l =
    (k : ℕ) × (m : ℕ) × (list : List (TermLabel × ℕ)) × (slice_get graph k ≡ Some list) × In (l, m) list

-- the labels of all transitions have printed texts
abbrev pub HasPrintedLabels : List Name → Graph TermLabel → Type 0
HasPrintedLabels names graph = (l : TermLabel) → IsOnTransition graph l → IsPrintedAs names l (text_of names l)

-- the labels are those of a suite for the graph: the gates of the own list that are among the names, and all labels of
-- transitions
pub record AreLabelsOf (names own : List Name) (graph : Graph TermLabel) (labels : List TermLabel) : Type 0 where
  pub suite : AreSuiteLabels names graph labels
  pub own_gates : (n : Name) → In n own → In n names → In n (label_texts names labels)
  pub only : (l : TermLabel) → In l labels → In (text_of names l) own ⊎ IsOnTransition graph l
