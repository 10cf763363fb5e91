use Rattle.std.proofs.Common.{map, drop}
use Rattle.lotos_warn.specs.Additions.{IsUnusedAmong}
use Rattle.lotos_warn.proofs.Additions.{AddsRest}
use Rattle.lotos_warn.proofs.definition_warnings.warn_of_unused.Given as goal

abbrev pub invariant-loop-gate : goal.invariant-loop-gate
invariant-loop-gate l =
    AddsRest l.fn.warnings.items l.warnings.items
    (IsUnusedAmong (map (λ k. k.now) l.used.keys) l.owner (drop l.gate-index l.formals))
    (IsUnusedAmong (map (λ k. k.now) l.used.keys) l.owner l.formals)
