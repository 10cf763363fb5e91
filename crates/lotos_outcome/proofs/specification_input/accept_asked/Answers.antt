use Rattle.lotos_check.proofs.SameFault.{passed_on}
use Rattle.lotos_check.specs.CheckedView.{system_of}
use Rattle.lotos_outcome.specs.RefusalCauses.{IsAskedRefusal}
use Rattle.lotos_outcome.specs.RefusalCauses.IsAskedRefusalBy.{of_interface}
use Rattle.lotos_outcome.specs.Rejections.{IsRejectionBy}
use Rattle.lotos_outcome.proofs.Rejections.{rejects_more}
use Rattle.lotos_outcome.proofs.specification_input.accept_asked.Goals as goal

pub returns-in_err-system-clause-refused : goal.returns-in_err-system-clause-refused
returns-in_err-system-clause-refused c =
    let r = c.from_residual-in_err-system in
    passed_on (IsRejectionBy (IsAskedRefusal c.args.interface.now c.args.text.now)) r.result c.in_err-system.field-0.0 r.ensures.1
    (rejects_more _ _ c.in_err-system.field-0.0
    (λ cause. of_interface (system_of c.in_ok-specification.field-0.system) c.in_ok-specification.ensures.accepted) c.in_err-system.ensures.rejected)

pub returns-clause-accepted : goal.returns-clause-accepted
returns-clause-accepted c = record {
  own = system_of c.in_ok-specification.field-0.system;
  accepted = c.in_ok-specification.ensures.accepted;
  asked = c.in_ok-system.ensures.asked;
}
