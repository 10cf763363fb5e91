use Rattle.std.proofs.Common.{◌≡◌, rules}
use Rattle.lotos_explain.proofs.InnerGates.{named_item}
use Rattle.lotos_explain.proofs.inner_gates.offset_of.Goals as goal

pub returns-then-eq : goal.returns-then-eq
returns-then-eq c =
    let gate = c.gate-item.result in
    let same : gate.name ≡ c.args.name.now = search rules in
    named_item c.args.gates.now c.loop-gate.gate-index gate c.args.name.now c.loop-gate-test.true c.gate-item.is same
