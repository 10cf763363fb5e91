use Rattle.std.proofs.Common.{◌≡◌, ◌<◌, ℕ, Some, get_or}
use Rattle.std.specs.Prelude.{slice_get}
use Rattle.lotos_check.proofs.guardedness.has_unranked_callee.Given as goal

abbrev pub invariant-loop-process : goal.invariant-loop-process
invariant-loop-process l = (k : ℕ) → k < l.process-index →
    (s : ℕ) × (slice_get l.ranks (get_or l.calls k 0) ≡ Some (Some s))
