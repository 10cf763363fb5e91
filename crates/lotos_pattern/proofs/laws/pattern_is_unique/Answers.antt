use Rattle.lotos_pattern.proofs.Spellings.{one_pattern}
use Rattle.lotos_pattern.proofs.laws.pattern_is_unique.Goals as goal

pub returns : goal.returns
returns c = one_pattern
