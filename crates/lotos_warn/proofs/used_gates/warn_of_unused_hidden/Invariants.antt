use Rattle.std.proofs.Common.{map, drop}
use Rattle.lotos_warn.specs.Additions.{IsUnusedOfHiding}
use Rattle.lotos_warn.proofs.Additions.{AddsRest}
use Rattle.lotos_warn.proofs.used_gates.warn_of_unused_hidden.Given as goal

abbrev pub invariant-loop-gate : goal.invariant-loop-gate
invariant-loop-gate l =
    AddsRest l.fn.warnings.items l.warnings.items
    (IsUnusedOfHiding (map (λ k. k.now) l.used.keys) (drop l.gate-index l.gates))
    (IsUnusedOfHiding (map (λ k. k.now) l.used.keys) l.gates)
