use Rattle.std.proofs.Common.{refl}
use Rattle.lotos_origins.proofs.WrappedTerms.{agree_everywhere}
use Rattle.lotos_origins.proofs.wrappers.make_the_same.Goals as goal

pub returns-then-agree_on_all : goal.returns-then-agree_on_all
returns-then-agree_on_all c = λ both.
    agree_everywhere c.args.nodes.now c.args.firsts.now c.args.seconds.now (c.if-agree_on_all.ensures refl)
    (c.agree_on_all-then-agree_on_all.ensures both)
