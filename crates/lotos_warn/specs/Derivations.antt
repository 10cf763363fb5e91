-- Derivations of terms without successful termination.
use Rattle.std.specs.Prelude.{List}
use Rattle.lotos_text.specs.AstView.{BehaviourView, DefinitionView}
use Rattle.lotos_check.specs.NameLists.{Name, IsAscendingNames}
use Rattle.lotos_check.specs.Scope.{Scope}
use Rattle.lotos_check.specs.Flat.{Flat, System, Pairwise, Resolves}
use Rattle.lotos_check.specs.Acceptance.{IsAccepted}
use Rattle.lotos_store.specs.Terms.{Process, Term}
use Rattle.lotos_store.specs.declared.label.Label.{Label}
use Rattle.lotos_store.specs.declared.label.Label.TheVariants as l
use Rattle.lotos_terms.specs.Steps.{Step}
use Rattle.lotos_terms.specs.Numbered.{IsNumberedProcess, IsNumberedTerm}

-- a derivation leads from the first term to the second (ISO)
pub data IsDerived (system : List Process) (first : Term) : Term → Type 0 where
  no_step : IsDerived system first first
  one_more : {t u : Term} {k : Label} → IsDerived system first t → Step system t k u → IsDerived system first u

-- no derivation from the term has a step labelled exit
abbrev pub NeverTerminates : List Process → Term → Type 0
NeverTerminates system first = (t u : Term) → IsDerived system first t → Step system t l.Exit u → ⊥

-- the term is the behaviour in this scope, and the processes are those of the accepted specification, with calls and
-- gates by number
pub record IsTermOf (whole : DefinitionView) (scope : Scope) (behaviour : BehaviourView) (processes : List Process)
    (term : Term) : Type 0 where
  pub system : System
  pub accepted : IsAccepted whole system
  -- the names of the gates, by number
  pub names : List Name
  pub numbered : Pairwise (IsNumberedProcess names) system.processes processes
  -- the behaviour with calls by number
  pub flat : Flat
  pub resolved : Resolves scope behaviour flat
  pub same : IsNumberedTerm names flat term

-- the term is the behaviour of the accepted specification, and the processes are its processes, with calls and gates by
-- number; no name has two numbers
pub record IsStartOf (whole : DefinitionView) (processes : List Process) (term : Term) : Type 0 where
  pub system : System
  pub accepted : IsAccepted whole system
  -- the names of the gates, by number
  pub names : List Name
  pub ascends : IsAscendingNames names
  pub numbered : Pairwise (IsNumberedProcess names) system.processes processes
  pub same : IsNumberedTerm names system.start term

-- the term has no step
abbrev pub HasNoStep : List Process → Term → Type 0
HasNoStep system t = (k : Label) (u : Term) → Step system t k u → ⊥
