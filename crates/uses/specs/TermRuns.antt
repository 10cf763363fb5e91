-- Runs of a specification, step by step in its table.
use Rattle.std.specs.Prelude.{◌≡◌, ◌<◌, ◌≤◌, ℕ, List, [], ◌∷◌, Option, Some, None, length, slice_get}
use Rattle.lotos_store.specs.Terms.{Term}
use Rattle.lotos_store.specs.declared.label.Label.{Label}
use Rattle.lotos_terms.specs.TableView.{TableView, IsLabel}
use Rattle.lotos_terms.specs.Steps.{Step}

-- a step of the table from the term with the number `here`: its label, and the number of the term that it leads to
-- (ISO, by number)
pub record IsStep (table : TableView) (here : ℕ) (step : Label × ℕ) : Type 0 where
  pub label : IsLabel table step.0
  pub from : Term
  pub to : Term
  pub located : slice_get table.terms here ≡ Some from
  pub leads : slice_get table.terms step.1 ≡ Some to
  pub derived : Step table.processes from step.0 to

-- the term with the number `here` has no step at all (ISO, by number)
pub record IsDeadlock (table : TableView) (here : ℕ) : Type 0 where
  pub term : Term
  pub located : slice_get table.terms here ≡ Some term
  pub none : (k : Label) (t : Term) → Step table.processes term k t → ⊥

-- a step of the term, or none if it has no step at all
abbrev pub IsStepIfAny : TableView → ℕ → Option (Label × ℕ) → Type 0
IsStepIfAny table here None = IsDeadlock table here
IsStepIfAny table here (Some step) = IsStep table here step

-- the steps lead from one number to the other, each from where the one before it leads to
abbrev pub RunTo : TableView → ℕ → List (Label × ℕ) → ℕ → Type 0
RunTo table here [] end = here ≡ end
RunTo table here (step ∷ steps) end = IsStep table here step × RunTo table step.1 steps end

-- a run of at most `depth` steps from the term with the number `start`; if it has fewer, its last term has no step at
-- all
pub record IsRunOf (table : TableView) (start : ℕ) (steps : List (Label × ℕ)) (depth : ℕ) : Type 0 where
  pub end : ℕ
  pub run : RunTo table start steps end
  pub within : length steps ≤ depth
  pub deadlock : length steps < depth → IsDeadlock table end
