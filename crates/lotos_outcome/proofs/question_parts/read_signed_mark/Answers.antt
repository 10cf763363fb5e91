use Rattle.std.proofs.Common.{◌≡◌, ◌∙◌, ap, string_bytes, subst, sym}
use Rattle.lotos_check.proofs.SameFault.{passed_on}
use Rattle.lotos_listing.specs.Marks.{IsMarkFault}
use Rattle.lotos_outcome.specs.QuestionParts.{without_sign}
use Rattle.lotos_outcome.specs.RefusalCauses.{IsSignedMarkRefusal}
use Rattle.lotos_outcome.specs.Rejections.{IsRejectionBy, mark_rejection}
use Rattle.lotos_outcome.proofs.Rejections.{mark_rejected_for}
use Rattle.lotos_outcome.proofs.question_parts.read_signed_mark.Goals as goal

pub returns-in_err-read-clause-rejected : goal.returns-in_err-read-clause-rejected
returns-in_err-read-clause-rejected c =
    let fault = c.in_err-read.field-0.0 in
    let bare : c.without_sign-bare.result.now ≡ without_sign (string_bytes c.in-Some.line) =
    c.without_sign-bare.ensures ∙ ap without_sign c.as_str.ensures.value in
    let h = subst (λ text. IsMarkFault c.args.strong text fault) bare c.in_err-read.ensures.fault in
    passed_on (IsRejectionBy (IsSignedMarkRefusal c.args.strong c.args.line.now)) c.from_residual.result (mark_rejection fault) c.from_residual.ensures.1
    (subst (λ line. IsRejectionBy (IsSignedMarkRefusal c.args.strong line) (mark_rejection fault)) (sym c.in-Some.is)
    (mark_rejected_for without_sign c.args.strong c.in-Some.line fault h))
