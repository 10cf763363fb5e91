use Rattle.std.proofs.lemmas.Result.{IfErr-weaker}
use Rattle.lotos_check.specs.CheckedView.{system_of}
use Rattle.lotos_check.specs.Flat.{System}
use Rattle.lotos_outcome.specs.RefusalCauses.IsAskedRefusalBy.{of_interface}
use Rattle.lotos_outcome.proofs.Rejections.{rejects_more}
use Rattle.lotos_outcome.proofs.specification_input.accept_asked_pair.Goals as goal

pub returns-clause-refused : goal.returns-clause-refused
returns-clause-refused c =
    let own : System × System = (system_of c.in_ok-first.first.system, system_of c.in_ok-first.second.system) in
    IfErr-weaker c.both_seen_through.result _ _ (λ u h. rejects_more _ _ u (λ cause. of_interface own c.in_ok-first.ensures.accepted) h)
    c.both_seen_through.ensures.rejected
