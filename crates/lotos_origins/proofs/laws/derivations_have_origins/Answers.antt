use Rattle.lotos_origins.proofs.InternalSteps.{derives, has_origins}
use Rattle.lotos_origins.proofs.laws.derivations_have_origins.Goals as goal

pub returns-clause-derivation : goal.returns-clause-derivation
returns-clause-derivation c = λ system t u run origins by. derives system by

pub returns-clause-origins : goal.returns-clause-origins
returns-clause-origins c = λ system t u run derived. has_origins system t u run derived
