use Rattle.std.proofs.Common.{◌≡◌, ℕ, ◌<◌, [], get_or}
use Rattle.lotos_outcome.proofs.unknown_gates.find_gate.Given as goal

-- none of the gates before the index has the name
abbrev pub invariant-loop-gate : goal.invariant-loop-gate
invariant-loop-gate l = (k : ℕ) → k < l.gate-index → get_or l.gates k [] ≡ l.name → ⊥
