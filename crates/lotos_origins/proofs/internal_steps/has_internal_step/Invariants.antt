use Rattle.std.proofs.Common.{◌≡◌, ◌<◌, ℕ, Some, slice_get}
use Rattle.lotos_store.specs.declared.label.Label.{Label}
use Rattle.lotos_store.specs.declared.label.Label.TheVariants as labels
use Rattle.lotos_origins.proofs.internal_steps.has_internal_step.Given as goal

abbrev pub invariant-loop-step : goal.invariant-loop-step
invariant-loop-step l = (k : ℕ) (s : Label × ℕ) → k < l.step-index → slice_get l.steps k ≡ Some s → s ≡ (labels.Internal, l.target) → ⊥
