use Rattle.std.proofs.Common.{refl}
use Rattle.lotos_origins.proofs.InternalSteps.{has_origin, is_step}
use Rattle.lotos_origins.proofs.laws.internal_steps_have_origins.Goals as goal

pub returns-clause-step : goal.returns-clause-step
returns-clause-step c = λ system t u o step. is_step system step

pub returns-clause-origin : goal.returns-clause-origin
returns-clause-origin c = λ system t u step. has_origin system step refl
