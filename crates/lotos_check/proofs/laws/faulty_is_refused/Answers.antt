use Rattle.lotos_check.proofs.Faults.{faulty_refused}
use Rattle.lotos_check.proofs.laws.faulty_is_refused.Goals as goal

pub returns : goal.returns
returns c = faulty_refused
