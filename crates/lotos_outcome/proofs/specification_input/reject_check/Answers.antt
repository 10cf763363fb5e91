use Rattle.std.proofs.Common.{subst}
use Rattle.lotos_text.specs.Grammar.{SpellsPair, SpellsSpecification}
use Rattle.lotos_check.specs.Acceptance.{IsAccepted, IsStaticFault}
use Rattle.lotos_check.specs.AcceptedText.{AreAccepted, IsStaticFaultOfPair}
use Rattle.lotos_check.specs.FaultOffsets.{offset_of}
use Rattle.lotos_outcome.specs.RefusalCauses.{IsPositionOf}
use Rattle.lotos_outcome.proofs.Rejections.{check_rejected}
use Rattle.lotos_outcome.proofs.specification_input.reject_check.Goals as goal

pub returns-clause-one : goal.returns-clause-one
returns-clause-one c = λ h.
    check_rejected SpellsSpecification IsAccepted IsStaticFault c.args.text.now c.args.fault c.in-Some.line c.in-Some.column h
    (subst (IsPositionOf c.args.text.now (offset_of c.args.fault)) c.in-Some.is c.requires.position)

pub returns-clause-pair : goal.returns-clause-pair
returns-clause-pair c = λ h.
    check_rejected SpellsPair AreAccepted IsStaticFaultOfPair c.args.text.now c.args.fault c.in-Some.line c.in-Some.column h
    (subst (IsPositionOf c.args.text.now (offset_of c.args.fault)) c.in-Some.is c.requires.position)
