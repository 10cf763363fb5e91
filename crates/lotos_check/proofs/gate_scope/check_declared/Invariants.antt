use Rattle.std.proofs.Common.{drop}
use Rattle.lotos_check.proofs.DeclaredGates.{Found}
use Rattle.lotos_check.proofs.gate_scope.check_declared.Given as goal

abbrev pub invariant-loop-gate : goal.invariant-loop-gate
invariant-loop-gate l = Found (λ k. k.now) l.scope.keys l.gates (drop l.gate-index l.gates)
