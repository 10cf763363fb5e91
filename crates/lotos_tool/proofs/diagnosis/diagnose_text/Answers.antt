use Rattle.std.proofs.Common.{subst, sym}
use Rattle.lotos_check.specs.AcceptedText.{Accepted}
use Rattle.lotos_outcome.specs.Calls.{EndsAs}
use Rattle.lotos_tool.specs.CheckOutcome.{check_answering}
use Rattle.lotos_outcome.specs.RefusalCauses.{IsTextRefusal}
use Rattle.lotos_tool.proofs.CallEnds.{rejected_ends}
use Rattle.lotos_tool.proofs.diagnosis.diagnose_text.Goals as goal

pub returns-in-Err-clause-ends : goal.returns-in-Err-clause-ends
returns-in-Err-clause-ends g c =
    subst (EndsAs check_answering (IsTextRefusal c.args.text.now) (Accepted c.args.text.now) _ _) (sym c.report_rejection.ensures)
    (rejected_ends check_answering _ _ _ c.reject.result (c.reject.ensures.one c.in-Err.ensures.rejected))
