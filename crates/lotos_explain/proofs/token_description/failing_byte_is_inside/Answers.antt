use Rattle.std.proofs.Common.{ap, arith, length, length-drop}
use Rattle.lotos_explain.proofs.LexedRests.{byte_is_left}
use Rattle.lotos_explain.proofs.token_description.failing_byte_is_inside.Goals as goal

pub returns : goal.returns
returns c =
    let left = ap length (byte_is_left c.args.text.now c.args.at c.requires) in
    omega (arith, left, length-drop c.args.at c.args.text.now)
