use Rattle.std.proofs.Common.{arith}
use Rattle.lotos_origins.proofs.WrappedTerms.{equal_everywhere}
use Rattle.lotos_origins.proofs.wrappers.are_equal.Goals as goal

pub returns : goal.returns
returns c = λ _.
    equal_everywhere c.args.nodes.now c.args.firsts.now c.args.seconds.now c.if-firsts-seconds.false
    (λ k w v below. c.loop-index.invariant k w v (omega (arith, below, c.loop-index-test.false)))
