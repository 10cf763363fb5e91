use Rattle.std.proofs.Common.{map}
use Rattle.lotos_check.specs.FlatOf.{process_of}
use Rattle.lotos_warn.specs.Additions.{AreExiting}
use Rattle.lotos_warn.proofs.termination.add_backwards.Given as goal

abbrev pub invariant-loop-back : goal.invariant-loop-back
invariant-loop-back l =
    AreExiting (map process_of l.processes) l.fn.exiting.keys → AreExiting (map process_of l.processes) l.exiting.keys
