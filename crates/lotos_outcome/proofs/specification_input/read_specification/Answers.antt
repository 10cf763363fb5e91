use Rattle.std.proofs.Common.{subst}
use Rattle.lotos_check.proofs.SameFault.{passed_on}
use Rattle.lotos_outcome.specs.RefusalCauses.{IsInputRefusal, IsTextRefusal}
use Rattle.lotos_outcome.specs.RefusalCauses.IsInputRefusalBy.{of_text, unread}
use Rattle.lotos_outcome.specs.Rejections.{IsRejectionBy}
use Rattle.lotos_outcome.proofs.Rejections.{rejects_more}
use Rattle.lotos_outcome.proofs.specification_input.read_specification.Goals as goal

pub returns-in_err-accepted_text-clause-refused : goal.returns-in_err-accepted_text-clause-refused
returns-in_err-accepted_text-clause-refused g c =
    let r = c.from_residual-in_err-accepted_text in
    let u = c.in_err-accepted_text.field-0.0 in
    passed_on (IsRejectionBy (IsInputRefusal _ _)) r.result u r.ensures.1
    (rejects_more _ _ u (λ cause. of_text c.in_ok-text.text.items c.in_ok-text.ensures.whole)
    (subst (λ text. IsRejectionBy (IsTextRefusal text) u) c.as_slice.ensures.value c.in_err-accepted_text.ensures.refused))

pub returns-in_err-text-clause-refused : goal.returns-in_err-text-clause-refused
returns-in_err-text-clause-refused g c =
    let r = c.from_residual in
    passed_on (IsRejectionBy (IsInputRefusal _ _)) r.result c.in_err-text.field-0.0 r.ensures.1
    (rejects_more _ _ c.in_err-text.field-0.0 (λ cause. unread) c.in_err-text.ensures.refused)
