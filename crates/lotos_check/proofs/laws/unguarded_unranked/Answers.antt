use Rattle.lotos_check.proofs.UnguardedSets.{unguarded_has_no_ranking}
use Rattle.lotos_check.proofs.laws.unguarded_unranked.Goals as goal

pub returns : goal.returns
returns c = λ processes set rank p unguarded stands falls. unguarded_has_no_ranking processes set rank p unguarded stands falls
