use Rattle.std.proofs.Common.{◌^◌, ◌-◌, map}
use Rattle.lotos_check.specs.FlatOf.{process_of}
use Rattle.lotos_warn.specs.CallSites.{from_process}
use Rattle.lotos_warn.proofs.ReachedNumbers.{IsExpandedTo}
use Rattle.lotos_warn.proofs.process_calls.reached_from.Given as goal

abbrev pub invariant-loop-passed : goal.invariant-loop-passed
invariant-loop-passed l = IsExpandedTo (from_process (map process_of l.processes) l.number) l.reached.keys l.passed

abbrev pub decreases-loop-passed : goal.decreases-loop-passed
decreases-loop-passed l = 2 ^ 63 - l.passed
