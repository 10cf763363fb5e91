-- What is looked for below an internal step, by the numbers of terms.
use Rattle.std.specs.Prelude.{◌≡◌, ◌<◌, ◌⊎◌, ℕ, List, Some, slice_get}
use Rattle.lotos_check.specs.NameLists.{In}
use Rattle.lotos_store.specs.Terms.{Term}
use Rattle.lotos_store.specs.declared.label.Label.{Label}
use Rattle.lotos_store.specs.declared.label.Label.TheVariants as l
use Rattle.lotos_terms.specs.Steps.{Step}
use Rattle.lotos_terms.specs.TableView.{TableView}
use Rattle.lotos_normal.specs.ProcessBodies.{HasBodiesBelow}
use Rattle.lotos_origins.specs.Origins.{InternalStep}
use Rattle.lotos_origins.specs.declared.origin.Origin.{Origin}
use Rattle.lotos_origins.specs.declared.origin.Origin.TheVariants as origin
use Rattle.lotos_origins.specs.declared.origin_search.Finding.{Finding}
use Rattle.lotos_origins.specs.declared.origin_search.Finding.TheVariants as finding

-- a step by the label leads from the term with the first number to that with the second one
pub record LeadsBy (table : TableView) (label : Label) (n m : ℕ) : Type 0 where
  pub from : Term
  pub to : Term
  pub located : slice_get table.terms n ≡ Some from
  pub leads : slice_get table.terms m ≡ Some to
  pub step : Step table.processes from label to

-- an internal step does so
abbrev pub LeadsInternally : TableView → ℕ → ℕ → Type 0
LeadsInternally table n m = LeadsBy table l.Internal n m

-- an internal step from the term with the first number to that with the second one has this origin
pub record IsOriginIn (table : TableView) (n m : ℕ) (o : Origin) : Type 0 where
  pub from : Term
  pub to : Term
  pub located : slice_get table.terms n ≡ Some from
  pub leads : slice_get table.terms m ≡ Some to
  pub step : InternalStep table.processes from o to

-- each origin of an internal step from the term `a` to the term `b` is one of an internal step from `n` to `m`
pub record IsInner (table : TableView) (n m a b : ℕ) : Type 0 where
  -- there is such a step
  pub leads : LeadsInternally table a b
  pub passes : (o : Origin) → IsOriginIn table a b o → IsOriginIn table n m o
  -- the target gets a smaller number, or keeps its number while the term gets a smaller one
  pub falls : (b < m) ⊎ ((b ≡ m) × (a < n))
  -- a part is below each bound of the term and of the bodies of processes
  pub below : (bound : ℕ) → HasBodiesBelow table bound → n < bound → a < bound

-- what is found is an origin of an internal step from `n` to `m`, or an internal step further inside
abbrev pub IsFinding : TableView → ℕ → ℕ → Finding → Type 0
IsFinding table n m (finding.Made o) = IsOriginIn table n m o
IsFinding table n m (finding.Inner a b) = IsInner table n m a b

-- an internal step from `a` to `b` was found if there is one, and otherwise one from `c` to `d` is looked for
abbrev pub IsFirstOf : TableView → ℕ → ℕ → ℕ → ℕ → Finding → Type 0
IsFirstOf table a b c d found = ((found ≡ finding.Inner a b) × LeadsInternally table a b) ⊎
    ((found ≡ finding.Inner c d) × (LeadsInternally table a b → ⊥))

-- an internal step from `a` to `b` was found, or a gate of the list with a step from `a` to `b`
abbrev pub IsHiddenStep : TableView → List ℕ → ℕ → ℕ → Finding → Type 0
IsHiddenStep table gates a b found = ((found ≡ finding.Inner a b) × LeadsInternally table a b) ⊎
    ((g : ℕ) × (found ≡ finding.Made (origin.Hidden g)) × In g gates × LeadsBy table (l.Gate g) a b)

-- an internal step from `a` to `b` was found if there is one and the other operand stays; otherwise one from `c` to `d`
-- is looked for
abbrev pub IsInOperand : TableView → ℕ → ℕ → ℕ → ℕ → Finding → Type 0
IsInOperand table a b c d found = ((found ≡ finding.Inner a b) × (d ≡ c) × LeadsInternally table a b) ⊎
    ((found ≡ finding.Inner c d) × (d ≡ c → LeadsInternally table a b → ⊥))

-- termination was found if the target is the right operand `c`; otherwise an internal step from `a` to `b` is looked
-- for
abbrev pub IsInEnabling : (a b c target : ℕ) → Finding → Type 0
IsInEnabling a b c target found = ((found ≡ finding.Made origin.Termination) × (target ≡ c)) ⊎
    ((found ≡ finding.Inner a b) × (target ≡ c → ⊥))
