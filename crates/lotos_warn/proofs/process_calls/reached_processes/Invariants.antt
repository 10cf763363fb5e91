use Rattle.std.proofs.Common.{◌^◌, ◌-◌}
use Rattle.lotos_check.specs.CheckedView.{system_of}
use Rattle.lotos_warn.proofs.ReachedNumbers.{IsExpandedTo}
use Rattle.lotos_warn.proofs.process_calls.reached_processes.Given as goal

abbrev pub invariant-loop-index : goal.invariant-loop-index
invariant-loop-index l = IsExpandedTo (system_of l.system) l.reached.keys l.index

abbrev pub decreases-loop-index : goal.decreases-loop-index
decreases-loop-index l = 2 ^ 63 - l.index
