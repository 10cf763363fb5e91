use Rattle.std.proofs.Common.{◌<◌, ◌≤◌, length, arith}
use Rattle.std.proofs.lemmas.List.{drop_all}
use Rattle.lotos_check.proofs.Pairs.{drop_at}
use Rattle.lotos_check.proofs.DeclaredGates.{found_more, found_unknown, found_all}
use Rattle.lotos_check.proofs.gate_scope.check_declared.Goals as goal

pub returns-then-not-contains-clause-undeclared : goal.returns-then-not-contains-clause-undeclared
returns-then-not-contains-clause-undeclared c names knows =
    let within : c.loop-gate.gate-index < length c.args.gates.now = omega arith in
    found_unknown (λ k. k.now) c.args.scope.now.keys c.args.gates.now _ _ c.gate-item.result c.text.result.now c.loop-gate.invariant
    (drop_at c.args.gates.now c.loop-gate.gate-index _ c.gate-item.result within c.gate-item.is)
    c.text.ensures.bytes _ c.contains.ensures c.if-not-contains.true names knows c.in_ok-copy.field-0 c.in_ok-copy.ensures

pub loop-gate-preserved : goal.loop-gate-preserved
loop-gate-preserved c =
    let within : c.loop-gate.gate-index < length c.args.gates.now = omega arith in
    found_more (λ k. k.now) c.args.scope.now.keys c.args.gates.now _ _ c.gate-item.result c.text.result.now c.loop-gate.invariant
    (drop_at c.args.gates.now c.loop-gate.gate-index _ c.gate-item.result within c.gate-item.is)
    c.text.ensures.bytes _ c.contains.ensures c.if-not-contains.false

pub returns-clause-declared : goal.returns-clause-declared
returns-clause-declared c =
    let done : length c.args.gates.now ≤ c.loop-gate.gate-index = omega arith in
    found_all (λ k. k.now) c.args.scope.now.keys c.args.gates.now _ c.loop-gate.invariant
    (drop_all c.loop-gate.gate-index c.args.gates.now done)
