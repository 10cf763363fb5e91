use Rattle.std.proofs.KnownBytes.{Keeps-refl}
use Rattle.lotos_check.proofs.SameFault.{passed_on}
use Rattle.lotos_outcome.specs.RefusalCauses.{IsSuiteRefusal}
use Rattle.lotos_outcome.specs.RefusalCauses.IsSuiteRefusal.{of_input, of_line}
use Rattle.lotos_outcome.specs.Rejections.{IsRejectionBy}
use Rattle.lotos_outcome.proofs.Rejections.{nothing_taken, rejects_more}
use Rattle.lotos_tool.proofs.suite_command.SuiteRequestCommand.read_parts.Goals as goal

pub returns-in_err-mark-clause-rejected : goal.returns-in_err-mark-clause-rejected
returns-in_err-mark-clause-rejected g c =
    let r = c.from_residual in
    passed_on (IsRejectionBy (IsSuiteRefusal c.args.self.now _ _)) r.result c.in_err-mark.field-0.0 r.ensures.1
    (rejects_more _ _ c.in_err-mark.field-0.0 (λ cause. of_line (Keeps-refl _)) c.in_err-mark.ensures.rejected)

pub returns-in_err-mark-clause-takes : goal.returns-in_err-mark-clause-takes
returns-in_err-mark-clause-takes g c = nothing_taken _

pub returns-in_err-system-clause-rejected : goal.returns-in_err-system-clause-rejected
returns-in_err-system-clause-rejected g c =
    let r = c.from_residual-in_err-system in
    passed_on (IsRejectionBy (IsSuiteRefusal c.args.self.now _ _)) r.result c.in_err-system.field-0.0 r.ensures.1
    (rejects_more _ _ c.in_err-system.field-0.0 (λ cause. of_input) c.in_err-system.ensures.refused)

pub returns-clause-parts : goal.returns-clause-parts
returns-clause-parts g c = record { read = c.in_ok-system.ensures.accepted; marked = c.in_ok-mark.ensures.mark }
