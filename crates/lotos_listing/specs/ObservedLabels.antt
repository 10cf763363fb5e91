-- Which labels are observed.
use Rattle.std.specs.Prelude.{◌≢◌, Bool, true, false}
use Rattle.lotos_store.specs.declared.label.Label.{Label as TermLabel}
use Rattle.lotos_store.specs.declared.label.Label.TheVariants.{Internal}

-- a step with the label is observed: every step if internal steps are observed (`--strong`), otherwise every step but
-- an internal one
abbrev pub IsObserved : (strong : Bool) → TermLabel → Type 0
IsObserved true k = Unit {0}
IsObserved false k = k ≢ Internal
