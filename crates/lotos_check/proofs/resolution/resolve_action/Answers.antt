use Rattle.lotos_check.proofs.DeclaredGates.{gate_unknown, gate_known}
use Rattle.lotos_check.proofs.resolution.resolve_action.Goals as goal

pub returns-then-not-contains-clause-undeclared : goal.returns-then-not-contains-clause-undeclared
returns-then-not-contains-clause-undeclared c gates knows =
    gate_unknown (λ k. k.now)
    c.args.gates_in_scope.now.keys gates knows c.args.action.now c.in-Gate.gate c.in-Gate.is c.text.result.now c.text.ensures.bytes _
    c.contains.ensures c.if-not-contains.true c.in_ok-copy-in-Gate.field-0 c.in_ok-copy-in-Gate.ensures

pub returns-in_ok-name-in-Gate-clause-declared : goal.returns-in_ok-name-in-Gate-clause-declared
returns-in_ok-name-in-Gate-clause-declared c gates knows =
    gate_known (λ k. k.now)
    c.args.gates_in_scope.now.keys gates knows c.args.action.now c.in-Gate.gate c.in-Gate.is c.text.result.now c.text.ensures.bytes _
    c.contains.ensures c.if-not-contains.false
