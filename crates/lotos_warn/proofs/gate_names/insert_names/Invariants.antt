use Rattle.std.proofs.Common.{map, drop}
use Rattle.lotos_check.specs.NameLists.{In, texts}
use Rattle.lotos_warn.proofs.Additions.{AddsRest}
use Rattle.lotos_warn.proofs.gate_names.insert_names.Given as goal

abbrev pub invariant-loop-gate : goal.invariant-loop-gate
invariant-loop-gate l =
    AddsRest (map (λ k. k.now) l.fn.into.keys) (map (λ k. k.now) l.into.keys)
    (λ n. In n (texts (drop l.gate-index l.gates))) (λ n. In n (texts l.gates))
