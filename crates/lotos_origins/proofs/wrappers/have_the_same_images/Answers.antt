use Rattle.std.proofs.Common.{arith}
use Rattle.lotos_origins.specs.Contexts.{bare}
use Rattle.lotos_origins.specs.Wrappers.{within}
use Rattle.lotos_origins.proofs.WrappedTerms.{same_images}
use Rattle.lotos_origins.proofs.wrappers.have_the_same_images.Goals as goal

pub returns : goal.returns
returns c = λ _.
    same_images (within c.args.nodes.now bare c.args.firsts.now) (within c.args.nodes.now bare c.args.seconds.now) c.args.gates.now c.args.others.now
    c.if-gates-others.false (λ k below. c.loop-index.invariant k (omega (arith, below, c.loop-index-test.false)))
