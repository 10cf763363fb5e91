use Rattle.lotos_check.proofs.UsedGates.{process_uses, specification_uses}
use Rattle.lotos_check.proofs.laws.bodies_use_formal_gates.Goals as goal

pub returns : goal.returns
returns c = record { specification = specification_uses; processes = process_uses }
