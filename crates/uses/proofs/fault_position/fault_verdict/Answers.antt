use Rattle.std.proofs.Common.{◌∙◌, sym}
use Rattle.uses.proofs.Faults.{placed}
use Rattle.uses.proofs.fault_position.fault_verdict.Goals as goal

pub returns-in-Some : goal.returns-in-Some
returns-in-Some c =
    placed c.args.text.now c.args.fault.now c.in-Some.at _ _ c.requires.fault (sym c.at.ensures ∙ c.in-Some.is) c.line_column-line.ensures
