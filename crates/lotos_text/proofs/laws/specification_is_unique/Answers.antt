use Rattle.lotos_text.proofs.Definitions.{one_specification}
use Rattle.lotos_text.proofs.laws.specification_is_unique.Goals as goal

pub returns : goal.returns
returns c = one_specification
