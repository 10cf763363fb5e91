use Rattle.std.proofs.Common.{subst}
use Rattle.lotos_text.specs.Grammar.{SpellsPair, SpellsSpecification}
use Rattle.lotos_check.specs.Acceptance.{IsAccepted, IsStaticFault}
use Rattle.lotos_check.specs.AcceptedText.{AreAccepted, IsRejectedFor, IsRejectedForPair, IsStaticFaultOfPair, accept_offset}
use Rattle.lotos_outcome.specs.RefusalCauses.{IsPositionOf}
use Rattle.lotos_outcome.proofs.Rejections.{text_rejected}
use Rattle.lotos_outcome.proofs.specification_input.reject.Goals as goal

pub returns-in-Text-clause-one : goal.returns-in-Text-clause-one
returns-in-Text-clause-one c = λ h.
    text_rejected SpellsSpecification IsAccepted IsStaticFault c.args.text.now c.in-Text.fault c.position_of-position.result
    (subst (IsRejectedFor c.args.text.now) c.in-Text.is h)
    (subst (λ f. IsPositionOf c.args.text.now (accept_offset f) c.position_of-position.result) c.in-Text.is c.position_of-position.ensures)

pub returns-in-Text-clause-pair : goal.returns-in-Text-clause-pair
returns-in-Text-clause-pair c = λ h.
    text_rejected SpellsPair AreAccepted IsStaticFaultOfPair c.args.text.now c.in-Text.fault c.position_of-position.result
    (subst (IsRejectedForPair c.args.text.now) c.in-Text.is h)
    (subst (λ f. IsPositionOf c.args.text.now (accept_offset f) c.position_of-position.result) c.in-Text.is c.position_of-position.ensures)
