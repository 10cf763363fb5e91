use Rattle.std.proofs.Common.{◌∙◌, arith}
use Rattle.std.proofs.lemmas.List.{take_all}
use Rattle.lotos_tool.proofs.suite_command.own_gates.Goals as goal

pub returns : goal.returns
returns c =
    c.loop-name.invariant ∙ take_all c.loop-name.name-index c.gates-own.result.now (omega (arith, c.loop-name-test.false)) ∙ c.gates-own.ensures
