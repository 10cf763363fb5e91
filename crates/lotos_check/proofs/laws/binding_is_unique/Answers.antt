use Rattle.lotos_check.proofs.BindingUnique.{one_meant}
use Rattle.lotos_check.proofs.laws.binding_is_unique.Goals as goal

pub returns : goal.returns
returns c = one_meant
