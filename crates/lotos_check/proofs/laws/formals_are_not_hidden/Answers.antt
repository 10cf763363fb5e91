use Rattle.lotos_check.proofs.HiddenGates.{formals_left}
use Rattle.lotos_check.proofs.laws.formals_are_not_hidden.Goals as goal

pub returns : goal.returns
returns c = formals_left
