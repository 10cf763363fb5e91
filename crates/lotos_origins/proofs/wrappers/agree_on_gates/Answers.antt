use Rattle.std.proofs.Common.{arith}
use Rattle.lotos_check.proofs.ListIndices.{each_in}
use Rattle.lotos_origins.specs.Wrappers.{AgreeAt}
use Rattle.lotos_origins.proofs.wrappers.agree_on_gates.Goals as goal

pub returns : goal.returns
returns c = λ _ g i.
    each_in (λ x. AgreeAt c.args.nodes.now c.args.firsts.now c.args.seconds.now x) c.args.gates.now 0
    (λ k below. c.loop-gate.invariant k (omega (arith, below, c.loop-gate-test.false))) g i
