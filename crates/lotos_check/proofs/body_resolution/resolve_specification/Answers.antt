use Rattle.std.proofs.Common.{[]}
use Rattle.lotos_text.specs.AstOf.{definition_view}
use Rattle.lotos_check.specs.Scope.{all_definitions}
use Rattle.lotos_check.specs.Resolution.{IsNameFaultIn}
use Rattle.lotos_check.proofs.SameFault.{passed_on}
use Rattle.lotos_check.proofs.body_resolution.resolve_specification.Goals as goal

pub returns-in_err-resolve_bodies-clause-name_fault : goal.returns-in_err-resolve_bodies-clause-name_fault
returns-in_err-resolve_bodies-clause-name_fault c =
    passed_on (IsNameFaultIn (all_definitions (definition_view c.args.whole.now))) c.from_residual.result c.in_err-resolve_bodies.field-0.0
    c.from_residual.ensures.1
    (c.in_err-resolve_bodies.ensures.name_fault [] c.new-scopes.ensures.items)

pub returns-clause-adds : goal.returns-clause-adds
returns-clause-adds c = rw c.new-found.ensures.items at (c.in_ok-resolve_bodies.ensures.adds [] c.new-scopes.ensures.items)
