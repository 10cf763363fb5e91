use Rattle.lotos_check.proofs.CalledProcesses.{call_fits, goes_to_named}
use Rattle.lotos_check.proofs.laws.calls_fit.Goals as goal

pub returns : goal.returns
returns c = record { fit = call_fits; named = goes_to_named }
