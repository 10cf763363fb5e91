use Rattle.std.proofs.Common.{map, drop}
use Rattle.lotos_check.specs.NameLists.{texts}
use Rattle.lotos_warn.proofs.NameTests.{IncludesAgain}
use Rattle.lotos_warn.proofs.exchanged_gates.have_names.Given as goal

abbrev pub invariant-loop-gate : goal.invariant-loop-gate
invariant-loop-gate l = IncludesAgain (map (λ k. k.now) l.set.keys) (texts (drop l.gate-index l.gates)) (texts l.gates)
