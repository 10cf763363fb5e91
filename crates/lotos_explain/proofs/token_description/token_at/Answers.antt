use Rattle.std.proofs.Common.{arith}
use Rattle.lotos_explain.proofs.Places.{among_at}
use Rattle.lotos_explain.proofs.token_description.token_at.Goals as goal

pub returns-then-token-at-clause-is : goal.returns-then-token-at-clause-is
returns-then-token-at-clause-is c =
    among_at c.args.found.now c.loop-token.token-index c.args.at _ (omega (arith, c.loop-token-test.true, c.loop-token.auto.token-index-end))
    c.if-token-at.true
