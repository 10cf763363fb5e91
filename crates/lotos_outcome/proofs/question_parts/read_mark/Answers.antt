use Rattle.std.proofs.Common.{subst, sym}
use Rattle.lotos_check.proofs.SameFault.{passed_on}
use Rattle.lotos_listing.specs.Marks.{IsMarkFault}
use Rattle.lotos_outcome.specs.RefusalCauses.{IsMarkRefusal}
use Rattle.lotos_outcome.specs.Rejections.{IsRejectionBy, mark_rejection}
use Rattle.lotos_outcome.proofs.Rejections.{mark_rejected_for}
use Rattle.lotos_outcome.proofs.question_parts.read_mark.Goals as goal

pub returns-in_err-read-in-Some-clause-rejected : goal.returns-in_err-read-in-Some-clause-rejected
returns-in_err-read-in-Some-clause-rejected c =
    let fault = c.in_err-read-in-Some.field-0.0 in
    let h = subst (λ text. IsMarkFault c.args.strong text fault) c.as_str.ensures.value c.in_err-read-in-Some.ensures.fault in
    passed_on (IsRejectionBy (IsMarkRefusal c.args.strong c.args.line.now)) c.from_residual.result (mark_rejection fault) c.from_residual.ensures.1
    (subst (λ line. IsRejectionBy (IsMarkRefusal c.args.strong line) (mark_rejection fault)) (sym c.in-Some.is)
    (mark_rejected_for (λ text. text) c.args.strong c.in-Some.line fault h))
