use Rattle.lotos_warn.proofs.DeadStarts.{no_step, dead_without_step}
use Rattle.lotos_warn.proofs.laws.what_can_do_nothing_has_no_step.Goals as goal

pub returns-clause-warning : goal.returns-clause-warning
returns-clause-warning c = no_step

pub returns-clause-no_step : goal.returns-clause-no_step
returns-clause-no_step c = dead_without_step
