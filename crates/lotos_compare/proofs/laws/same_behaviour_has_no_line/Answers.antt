use Rattle.lotos_compare.proofs.BehaviourObservations.{alike_itself}
use Rattle.lotos_compare.proofs.laws.same_behaviour_has_no_line.Goals as goal

pub returns : goal.returns
returns c = alike_itself
