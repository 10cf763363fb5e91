use Rattle.std.proofs.Common.{sym, subst}
use Rattle.lotos_text.specs.Grammar.{SpellsSpecification}
use Rattle.lotos_check.specs.Acceptance.{IsAccepted, IsStaticFault}
use Rattle.lotos_check.specs.AcceptedText.{IsRejectedFor}
use Rattle.lotos_check.proofs.AcceptedTexts.{rejected_text}
use Rattle.lotos_check.proofs.accepted_text.parse_text.Goals as goal

pub returns-in-Err-clause-rejected : goal.returns-in-Err-clause-rejected
returns-in-Err-clause-rejected c =
    subst (λ m. IsRejectedFor c.args.text.now m) (sym c.text_rejection.ensures)
    (rejected_text SpellsSpecification IsAccepted IsStaticFault c.args.text.now c.in-Err.fault c.in-Err.ensures.fault c.in-Err.ensures.nothing)
