use Rattle.std.proofs.Common.{ℕ, arith}
use Rattle.lotos_check.proofs.ListIndices.{each_in}
use Rattle.lotos_origins.specs.Wrappers.{AgreeAt}
use Rattle.lotos_origins.proofs.wrappers.agree_on_formals.Goals as goal

pub returns : goal.returns
returns c = λ _ p i.
    each_in (λ (q : ℕ × ℕ). AgreeAt c.args.nodes.now c.args.firsts.now c.args.seconds.now q.0) c.args.pairs.now p
    (λ k below. c.loop-formal.invariant k p (omega (arith, below, c.loop-formal-test.false))) p i
