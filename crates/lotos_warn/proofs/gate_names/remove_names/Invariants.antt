use Rattle.std.proofs.Common.{[], map, drop}
use Rattle.lotos_check.specs.NameLists.{texts}
use Rattle.lotos_warn.proofs.SharedNames.{KeepsRest}
use Rattle.lotos_warn.proofs.gate_names.remove_names.Given as goal

abbrev pub invariant-loop-gate : goal.invariant-loop-gate
invariant-loop-gate l =
    KeepsRest (map (λ k. k.now) l.fn.from.keys) (map (λ k. k.now) l.from.keys) [] [] (texts (drop l.gate-index l.gates)) (texts l.gates)
