use Rattle.std.proofs.Common.{subst}
use Rattle.std.proofs.lemmas.Result.{IfErr-weaker}
use Rattle.lotos_check.specs.AcceptedText.{AcceptedPair}
use Rattle.lotos_outcome.specs.Interfaces.{gates_of_both}
use Rattle.lotos_outcome.specs.RefusalCauses.{IsAskedPairRefusal, IsPairRefusal}
use Rattle.lotos_outcome.specs.Rejections.{IsRejectionBy}
use Rattle.lotos_outcome.proofs.Rejections.{asked_refused, rejects_more}
use Rattle.lotos_outcome.proofs.specification_input.read_asked_pair.Goals as goal

pub returns-clause-refused : goal.returns-clause-refused
returns-clause-refused g c =
    let interface = c.args.interface.now in
    IfErr-weaker c.accept_asked_pair.result _ _
    (λ u h. rejects_more _ _ u
    (λ cause. asked_refused IsPairRefusal AcceptedPair gates_of_both interface _ _ c.in_ok-text.text.items cause c.in_ok-text.ensures.whole)
    (subst (λ text. IsRejectionBy (IsAskedPairRefusal interface text) u) c.as_slice.ensures.value h))
    c.accept_asked_pair.ensures.refused
