use Rattle.std.proofs.Common.{map, drop}
use Rattle.lotos_text.specs.AstOf.{definition_view}
use Rattle.lotos_warn.specs.Additions.{IsProcessWarningOfAny}
use Rattle.lotos_warn.proofs.Additions.{AddsRest}
use Rattle.lotos_warn.proofs.definition_warnings.warn_of_processes.Given as goal

abbrev pub invariant-loop-number : goal.invariant-loop-number
invariant-loop-number l =
    AddsRest l.fn.warnings.items l.warnings.items
    (IsProcessWarningOfAny l.called.keys l.reached.keys l.exiting.keys l.number (map (λ d. definition_view d.now) (drop l.number l.processes)))
    (IsProcessWarningOfAny l.called.keys l.reached.keys l.exiting.keys 0 (map (λ d. definition_view d.now) l.processes))
