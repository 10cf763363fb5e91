use Rattle.std.proofs.Common.{◌<◌, ◌≤◌, length, arith, refl}
use Rattle.std.proofs.lemmas.List.{drop_all}
use Rattle.lotos_check.proofs.Pairs.{drop_at}
use Rattle.lotos_check.proofs.DeclaredGates.{added_more, added_all}
use Rattle.lotos_check.proofs.gate_scope.add_gates.Goals as goal

pub loop-gate-preserved : goal.loop-gate-preserved
loop-gate-preserved c =
    let within : c.loop-gate.gate-index < length c.args.gates.now = omega arith in
    added_more (λ k. k.now)
    c.args.scope.now.keys c.loop-gate.scope.keys c.insert.new.self.keys c.args.gates.now _ _ c.gate-item.result c.text.result c.text.result.now
    c.loop-gate.invariant (drop_at c.args.gates.now c.loop-gate.gate-index _ c.gate-item.result within c.gate-item.is)
    c.text.ensures.bytes refl c.in_ok-insert.ensures.keys

pub returns-clause-added : goal.returns-clause-added
returns-clause-added c =
    let done : length c.args.gates.now ≤ c.loop-gate.gate-index = omega arith in
    added_all (λ k. k.now) c.args.scope.now.keys c.loop-gate.scope.keys c.args.gates.now _ c.loop-gate.invariant
    (drop_all c.loop-gate.gate-index c.args.gates.now done)
