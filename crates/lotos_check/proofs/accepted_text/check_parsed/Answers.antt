use Rattle.std.proofs.Common.{sym, subst}
use Rattle.lotos_text.specs.AstOf.{definition_view}
use Rattle.lotos_check.specs.AcceptedText.{IsRejectedFor}
use Rattle.lotos_check.proofs.AcceptedTexts.{rejected_specification}
use Rattle.lotos_check.proofs.accepted_text.check_parsed.Goals as goal

pub returns-in-Err-clause-rejected : goal.returns-in-Err-clause-rejected
returns-in-Err-clause-rejected c =
    subst (λ m. IsRejectedFor c.args.text.now m) (sym c.check_rejection.ensures)
    (rejected_specification c.args.text.now (definition_view c.args.specification.now.whole) c.in-Err.fault c.requires
    c.in-Err.ensures.faulty c.in-Err.ensures.not_accepted)
