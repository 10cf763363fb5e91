use Rattle.std.proofs.Common.{drop}
use Rattle.lotos_check.proofs.DeclaredGates.{Added}
use Rattle.lotos_check.proofs.gate_scope.add_gates.Given as goal

abbrev pub invariant-loop-gate : goal.invariant-loop-gate
invariant-loop-gate l = Added (λ k. k.now) l.fn.scope.keys l.scope.keys l.gates (drop l.gate-index l.gates)
