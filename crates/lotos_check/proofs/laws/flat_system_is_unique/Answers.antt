use Rattle.lotos_check.proofs.FlatSystemUnique.{one_system}
use Rattle.lotos_check.proofs.laws.flat_system_is_unique.Goals as goal

pub returns : goal.returns
returns c = one_system
