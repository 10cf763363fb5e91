use Rattle.lotos_origins.proofs.Contexts.{alike_follows, alike_under}
use Rattle.lotos_origins.proofs.laws.alike_steps_have_the_same_origins.Goals as goal

pub returns-clause-step : goal.returns-clause-step
returns-clause-step c = λ system c d t u t' e alike step. alike_follows system alike e t' step

pub returns-clause-context : goal.returns-clause-context
returns-clause-context c = λ system c d outer t u alike. alike_under system outer alike
