-- The suite of the automaton of a question.
use Rattle.std.proofs.Common.{◌≡◌, ◌<◌, ◌≤◌, ◌+◌, ◌↔◌, ℕ, List, None, inr, length, refl, subst, sym}
use Rattle.lotos_check.specs.NameLists.{In, Name}
use Rattle.lotos_store.specs.declared.label.Label.{Label as TermLabel}
use Rattle.lotos_terms.specs.TableView.{IsPrintedAs}
use Rattle.lotos_listing.specs.Lookups.{text_of}
use Rattle.lotos_listing.specs.Order.{Label}
use Rattle.lotos_sets.specs.Behaviours.{Behaviour, CanBeObserved}
use Rattle.lotos_automaton.specs.Automata.{IsAutomatonOf}
use Rattle.lotos_automaton.specs.Graphs.{Graph}
use Rattle.lotos_suite.specs.GraphMachines.{AreSuiteLabels, label_texts}
use Rattle.lotos_suite.specs.GraphSuites.{IsSuiteOf}
use Rattle.lotos_suite.specs.Machines.{CanDo, IsMachineOver, Machine}
use Rattle.lotos_suite.specs.SuiteLabels.{AreLabelsOf, HasPrintedLabels}
use Rattle.lotos_suite.specs.Suites.{Line, Passes}
use Rattle.lotos_outcome.specs.declared.outcome.Stop.TheVariants.{Lines}
use Rattle.lotos_tool.specs.SuiteOutcome.{AreSubjects, IsWholeSuite, SuiteQuestion, most_lines}
use Rattle.lotos_tool.specs.SuiteParts.{IsGraphFor, IsSuiteFault}
use Rattle.lotos_tool.specs.declared.exploration.ExplorationHalt.{ExplorationHalt}

-- what `lines_miss_nothing` says
abbrev pub SuitesMissNothing : Type 0
SuitesMissNothing = (b : Behaviour) (graph : Graph TermLabel) (access : List (List Label)) (labels : List TermLabel) (extra : ℕ) (lines : List Line)
    (implementation : Machine) → IsAutomatonOf b graph access → AreSuiteLabels b.names graph labels → IsSuiteOf b.names graph access labels extra lines →
    IsMachineOver (label_texts b.names labels) implementation → implementation.states ≤ length graph + extra →
    ((line : Line) → In line lines → Passes implementation line) ↔ ((s : List Label) → CanBeObserved b s ↔ CanDo implementation s)

-- the labels of the automaton of a question have printed texts
pub graph_printed : (names own : List Name) (graph : Graph TermLabel) (extra : ℕ) (q : SuiteQuestion) → IsGraphFor names own graph extra q →
    HasPrintedLabels names graph
graph_printed names own graph extra q for l (k, m, list, at, there) =
    subst (λ ns. IsPrintedAs ns l (text_of ns l)) for.names_are (for.automaton.explored.printed k list l m at there)

module _ (names own : List Name) (graph : Graph TermLabel) (extra : ℕ) (q : SuiteQuestion) (for : IsGraphFor names own graph extra q)
    (labels : List TermLabel) (are : AreLabelsOf names own graph labels) where
  -- the automaton and the labels are those of the question
  subjects : AreSubjects q graph for.access labels
  subjects = record {
    automaton = for.automaton;
    named = subst (λ os. AreLabelsOf q.bounded.behaviour.names os graph labels) (sym for.own_are)
        (subst (λ ns. AreLabelsOf ns own graph labels) (sym for.names_are) are);
    clear = for.clear;
  }

  -- the labels of the suite, with the names of the behaviour
  pub labels_named : AreSuiteLabels q.bounded.behaviour.names graph labels
  labels_named = subst (λ ns. AreSuiteLabels ns graph labels) (sym for.names_are) are.suite

  -- the suite of the automaton is that of the question
  pub whole_suite : SuitesMissNothing → (lines : List Line) → IsSuiteOf q.bounded.behaviour.names graph for.access labels extra lines → IsWholeSuite q lines
  whole_suite law lines suite = record {
    graph = graph;
    access = for.access;
    labels = labels;
    subjects = subjects;
    suite = subst (λ k. IsSuiteOf q.bounded.behaviour.names graph for.access labels k lines) (sym for.extra_are) suite;
    complete = λ implementation over few. law q.bounded.behaviour graph for.access labels extra lines implementation for.automaton labels_named suite over
        (subst (λ k. implementation.states ≤ length graph + k) for.extra_are few);
  }

  -- and it has too many lines, if all lists of its lines have
  pub too_many : (h : ExplorationHalt) → h ≡ record { cause = Lines; place = None } →
      ((lines : List Line) → IsSuiteOf q.bounded.behaviour.names graph for.access labels extra lines → most_lines < length lines) → IsSuiteFault q h
  too_many h is many = subst (IsSuiteFault q) (sym is) (inr (record {
    cause = refl;
    place = refl;
    many = record {
      graph = graph;
      access = for.access;
      labels = labels;
      subjects = subjects;
      many = λ lines suite. many lines (subst (λ k. IsSuiteOf q.bounded.behaviour.names graph for.access labels k lines) for.extra_are suite);
    };
  }))
