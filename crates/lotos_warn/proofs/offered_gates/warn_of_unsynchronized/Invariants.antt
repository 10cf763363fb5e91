use Rattle.std.proofs.Common.{map, drop}
use Rattle.lotos_warn.specs.Additions.{IsApartOfHiding}
use Rattle.lotos_warn.proofs.Additions.{AddsRest}
use Rattle.lotos_warn.proofs.offered_gates.warn_of_unsynchronized.Given as goal

abbrev pub invariant-loop-gate : goal.invariant-loop-gate
invariant-loop-gate l =
    AddsRest l.fn.warnings.items l.warnings.items
    (IsApartOfHiding (map (λ k. k.now) l.apart.keys) (drop l.gate-index l.gates))
    (IsApartOfHiding (map (λ k. k.now) l.apart.keys) l.gates)
