use Rattle.std.proofs.Common.{map, drop}
use Rattle.lotos_text.specs.AstOf.{definition_view}
use Rattle.lotos_warn.specs.Additions.{IsGateWarningOfAny}
use Rattle.lotos_warn.proofs.Additions.{AddsRest}
use Rattle.lotos_warn.proofs.definition_warnings.warn_of_gates.Given as goal

abbrev pub invariant-loop-definition : goal.invariant-loop-definition
invariant-loop-definition l =
    AddsRest l.fn.warnings.items l.warnings.items
    (IsGateWarningOfAny (map (λ d. definition_view d.now) (drop l.definition-index l.definitions)))
    (IsGateWarningOfAny (map (λ d. definition_view d.now) l.definitions))
