use Rattle.std.proofs.Common.{refl, subst, sym}
use Rattle.lotos_text.specs.Limits.{max_text_length}
use Rattle.lotos_device.specs.TextInput.{ReadsAll}
use Rattle.lotos_outcome.specs.RefusalCauses.{IsInputRefusal, IsUnreadInput}
use Rattle.lotos_outcome.specs.RefusalCauses.IsInputRefusalBy.{unread}
use Rattle.lotos_outcome.proofs.Rejections.{rejects_more}
use Rattle.lotos_tool.specs.CheckOutcome.{check_meaning}
use Rattle.lotos_tool.proofs.CallEnds.{call_rejected}
use Rattle.lotos_tool.proofs.Diagnoses.{text_called}
use Rattle.lotos_tool.proofs.diagnosis.diagnose.Goals as goal

pub returns-in-Ok : goal.returns-in-Ok
returns-in-Ok g c =
    text_called _ _ _ _ c.as_slice.result.now c.diagnose_text.result
    (subst (ReadsAll (g.R.Source.state c.args.reader.now).remaining (g.R.Source.state c.read_input.new.reader).remaining max_text_length)
    (sym c.as_slice.ensures.value) c.in-Ok.ensures.whole) c.in-Ok.ensures.takes c.in-Ok.ensures.failed
    c.diagnose_text.ensures.ends c.diagnose_text.ensures.failed

pub returns-in-Err : goal.returns-in-Err
returns-in-Err g c =
    call_rejected check_meaning _ _ _ c.in-Err.rejection _ c.report_rejection.result c.report_rejection.ensures refl
    (rejects_more (IsUnreadInput _ _) (IsInputRefusal _ _) c.in-Err.rejection (λ cause. unread) c.in-Err.ensures.refused)
    c.in-Err.ensures.takes c.in-Err.ensures.failed c.requires.out
