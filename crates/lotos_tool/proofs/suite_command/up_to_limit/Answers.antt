use Rattle.std.proofs.Common.{arith}
use Rattle.std.proofs.lemmas.List.{take_min}
use Rattle.lotos_tool.proofs.suite_command.up_to_limit.Goals as goal

pub returns-in-Some : goal.returns-in-Some
returns-in-Some c = rw c.in-Some.is (grind (arith, take_min c.in-Some.limit c.args.lines.now))
