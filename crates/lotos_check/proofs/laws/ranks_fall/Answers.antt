use Rattle.lotos_check.proofs.RankedCalls.{call_falls}
use Rattle.lotos_check.proofs.laws.ranks_fall.Goals as goal

pub returns : goal.returns
returns c = call_falls
