use Rattle.std.proofs.Common.{[], map, drop}
use Rattle.lotos_warn.specs.Additions.{IsMissingGate}
use Rattle.lotos_warn.proofs.Additions.{AddsRest}
use Rattle.lotos_warn.proofs.offered_gates.warn_of_unoffered.Given as goal

abbrev pub invariant-loop-gate : goal.invariant-loop-gate
invariant-loop-gate l =
    AddsRest l.fn.warnings.items l.warnings.items
    (IsMissingGate (map (λ k. k.now) l.by_left.keys) (map (λ k. k.now) l.by_right.keys) (map (λ k. k.now) l.seen.keys) (drop l.gate-index l.gates))
    (IsMissingGate (map (λ k. k.now) l.by_left.keys) (map (λ k. k.now) l.by_right.keys) [] l.gates)
