use Rattle.lotos_check.proofs.FlatSystemUnique.{calls_within}
use Rattle.lotos_check.proofs.laws.calls_in_range.Goals as goal

pub returns : goal.returns
returns c = calls_within
