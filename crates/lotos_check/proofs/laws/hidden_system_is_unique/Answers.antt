use Rattle.lotos_check.proofs.HiddenGates.{one_hidden}
use Rattle.lotos_check.proofs.laws.hidden_system_is_unique.Goals as goal

pub returns : goal.returns
returns c = one_hidden
