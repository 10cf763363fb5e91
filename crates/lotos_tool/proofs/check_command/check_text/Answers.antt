use Rattle.std.proofs.Common.{refl, subst, sym}
use Rattle.lotos_tool.specs.CheckOutcome.{check_meaning}
use Rattle.lotos_outcome.specs.QuestionParts.{ReadsAccepted}
use Rattle.lotos_tool.proofs.CallEnds.{call_answered, call_rejected}
use Rattle.lotos_tool.proofs.check_command.check_text.Goals as goal

pub returns-in-Ok : goal.returns-in-Ok
returns-in-Ok g c =
    call_answered check_meaning _ _ _ _ _ c.write_processes.result
    (λ asked same. subst (ReadsAccepted _ _) (sym same) c.in-Ok.ensures.accepted)
    c.in-Ok.ensures.takes c.in-Ok.ensures.failed c.write_processes.ensures.ends c.write_processes.ensures.failed

pub returns-in-Err : goal.returns-in-Err
returns-in-Err g c =
    call_rejected check_meaning _ _ _ c.in-Err.rejection _ c.end_of.result c.end_of.ensures refl
    c.in-Err.ensures.refused c.in-Err.ensures.takes c.in-Err.ensures.failed c.requires.writer
