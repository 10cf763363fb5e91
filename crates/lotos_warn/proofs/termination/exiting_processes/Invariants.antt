use Rattle.std.proofs.Common.{◌≡◌, ◌+◌, ◌*◌, ◌-◌, ◌^◌, false, length, map}
use Rattle.std.specs.Prelude.{if◌then◌else◌}
use Rattle.lotos_check.specs.FlatOf.{process_of}
use Rattle.lotos_warn.specs.Additions.{AreExiting, IsClosedBelow}
use Rattle.lotos_warn.proofs.termination.exiting_processes.Given as goal

abbrev pub invariant-loop-grew : goal.invariant-loop-grew
invariant-loop-grew l = record {
  sound : AreExiting (map process_of l.processes) l.exiting.keys;
  closed : l.grew ≡ false → IsClosedBelow (map process_of l.processes) l.exiting.keys (length l.processes);
}

abbrev pub decreases-loop-grew : goal.decreases-loop-grew
decreases-loop-grew l = (2 ^ 63 - length l.exiting.keys) * 2 + (if l.grew then 1 else 0)
