use Rattle.std.proofs.Common.{sym, subst}
use Rattle.lotos_text.specs.Grammar.{SpellsPair}
use Rattle.lotos_check.specs.AcceptedText.{AreAccepted, IsRejectedForPair, IsStaticFaultOfPair}
use Rattle.lotos_check.proofs.AcceptedTexts.{rejected_text}
use Rattle.lotos_check.proofs.accepted_text.parse_pair_text.Goals as goal

pub returns-in-Err-clause-rejected : goal.returns-in-Err-clause-rejected
returns-in-Err-clause-rejected c =
    subst (λ m. IsRejectedForPair c.args.text.now m) (sym c.text_rejection.ensures)
    (rejected_text SpellsPair AreAccepted IsStaticFaultOfPair c.args.text.now c.in-Err.fault c.in-Err.ensures.fault c.in-Err.ensures.nothing)
