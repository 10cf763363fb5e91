use Rattle.std.proofs.Common.{sym, subst}
use Rattle.lotos_text.specs.AstOf.{definition_view}
use Rattle.lotos_check.specs.AcceptedText.{IsRejectedForPair}
use Rattle.lotos_check.specs.CheckedView.{system_of}
use Rattle.lotos_check.proofs.AcceptedTexts.{rejected_first, rejected_second}
use Rattle.lotos_check.proofs.accepted_text.accept_pair.Goals as goal

pub returns-in-Err-clause-rejected : goal.returns-in-Err-clause-rejected
returns-in-Err-clause-rejected c =
    subst (λ m. IsRejectedForPair c.args.text.now m) (sym c.check_rejection.ensures)
    (rejected_first c.args.text.now (definition_view c.in_ok-first.first.whole, definition_view c.in_ok-first.second.whole) c.in-Err.fault
    c.in_ok-first.ensures.parsed c.in-Err.ensures.faulty c.in-Err.ensures.not_accepted)

pub returns-in-Err-check-clause-rejected : goal.returns-in-Err-check-clause-rejected
returns-in-Err-check-clause-rejected c =
    subst (λ m. IsRejectedForPair c.args.text.now m) (sym c.check_rejection-in-Err-check.ensures)
    (rejected_second c.args.text.now (definition_view c.in_ok-first.first.whole, definition_view c.in_ok-first.second.whole)
    (system_of c.in-Ok.system) c.in-Err-check.fault
    c.in_ok-first.ensures.parsed c.in-Ok.ensures.accepted c.in-Err-check.ensures.faulty c.in-Err-check.ensures.not_accepted)
