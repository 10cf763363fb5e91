use Rattle.std.proofs.Common.{subst}
use Rattle.lotos_check.specs.AcceptedText.{Accepted}
use Rattle.lotos_check.specs.Flat.{System}
use Rattle.lotos_check.proofs.SameFault.{passed_on}
use Rattle.lotos_outcome.specs.RefusalCauses.{IsAskedRefusal, IsInterfaceRefusal, IsTextRefusal}
use Rattle.lotos_outcome.specs.Rejections.{IsRejectionBy}
use Rattle.lotos_outcome.proofs.Rejections.{asked_refused, rejects_more, unread_refused}
use Rattle.lotos_outcome.proofs.specification_input.read_asked.Goals as goal

pub returns-in_err-text-clause-refused : goal.returns-in_err-text-clause-refused
returns-in_err-text-clause-refused g c =
    let r = c.from_residual in
    passed_on (IsRejectionBy (IsInterfaceRefusal c.args.interface.now _ _)) r.result c.in_err-text.field-0.0 r.ensures.1
    (rejects_more _ _ c.in_err-text.field-0.0
    (unread_refused IsTextRefusal Accepted (λ (own : System). own.formals) c.args.interface.now _ _) c.in_err-text.ensures.refused)

pub returns-in-Err-clause-refused : goal.returns-in-Err-clause-refused
returns-in-Err-clause-refused g c =
    let u = c.in-Err.rejection in
    let interface = c.args.interface.now in
    rejects_more _ _ u
    (λ cause. asked_refused IsTextRefusal Accepted (λ (own : System). own.formals) interface _ _ c.in_ok-text.text.items cause c.in_ok-text.ensures.whole)
    (subst (λ text. IsRejectionBy (IsAskedRefusal interface text) u) c.as_slice.ensures.value c.in-Err.ensures.refused)

pub returns-in-Ok-clause-accepted : goal.returns-in-Ok-clause-accepted
returns-in-Ok-clause-accepted g c =
    let asked = c.in-Ok.ensures.accepted in
    record {
      own = asked.own;
      read = record {
        text = c.in_ok-text.text.items;
        read = c.in_ok-text.ensures.whole;
        accepted = subst (λ t. Accepted t asked.own) c.as_slice.ensures.value asked.accepted;
      };
      asked = asked.asked;
    }
