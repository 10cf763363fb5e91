use Rattle.std.proofs.Common.{arith}
use Rattle.lotos_check.proofs.ListIndices.{each_in}
use Rattle.lotos_origins.specs.Wrappers.{AgreeOn}
use Rattle.lotos_origins.proofs.wrappers.agree_on_all.Goals as goal

pub returns : goal.returns
returns c = λ _ w i.
    each_in (λ v. AgreeOn c.args.nodes.now c.args.firsts.now c.args.seconds.now v) c.args.wrappers.now w
    (λ k below. c.loop-wrapper.invariant k w (omega (arith, below, c.loop-wrapper-test.false))) w i
