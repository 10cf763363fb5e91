use Rattle.std.proofs.Common.{◌≡◌, ◌<◌, ℕ, Some, slice_get}
use Rattle.lotos_suite.proofs.suite.target_by.Given as goal

abbrev pub invariant-loop-transition : goal.invariant-loop-transition
invariant-loop-transition l = (n m : ℕ) → n < l.transition-index → slice_get l.transitions n ≡ Some (l.label, m) → ⊥
