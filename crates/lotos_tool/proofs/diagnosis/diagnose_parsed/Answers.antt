use Rattle.std.proofs.Common.{subst, sym}
use Rattle.lotos_text.specs.AstOf.{definition_view}
use Rattle.lotos_check.specs.AcceptedText.{Accepted}
use Rattle.lotos_outcome.specs.Calls.{EndsAs}
use Rattle.lotos_tool.specs.CheckOutcome.{check_answering}
use Rattle.lotos_outcome.specs.RefusalCauses.{IsTextRefusal}
use Rattle.lotos_tool.proofs.CallEnds.{ends_more, rejected_ends}
use Rattle.lotos_tool.proofs.diagnosis.diagnose_parsed.Goals as goal

pub returns-in-Ok-clause-ends : goal.returns-in-Ok-clause-ends
returns-in-Ok-clause-ends g c =
    ends_more check_answering _ _ _ _ _ c.report_processes.result
    (λ asked same. subst (Accepted c.args.text.now) (sym same) (record {
      whole = definition_view c.args.specification.now.whole;
      spelled = c.requires.parsed.spelled;
      accepted = c.in-Ok.ensures.checked;
    }))
    c.report_processes.ensures.ends

pub returns-in-Err-clause-ends : goal.returns-in-Err-clause-ends
returns-in-Err-clause-ends g c =
    subst (EndsAs check_answering (IsTextRefusal c.args.text.now) (Accepted c.args.text.now) _ _) (sym c.report_rejection.ensures)
    (rejected_ends check_answering _ _ _ c.reject-rejection.result (c.reject-rejection.ensures.one c.in-Err.ensures.rejected))
