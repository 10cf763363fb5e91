use Rattle.std.proofs.Common.{◌≡◌, ◌++◌, map, drop}
use Rattle.lotos_check.specs.FlatOf.{process_of}
use Rattle.lotos_warn.specs.CallSites.{numbers_of_all}
use Rattle.lotos_warn.proofs.call_sites.add_numbers_of_all.Given as goal

abbrev pub invariant-loop-process : goal.invariant-loop-process
invariant-loop-process l =
    l.into.items ++ numbers_of_all (map process_of (drop l.process-index l.processes))
    ≡ l.fn.into.items ++ numbers_of_all (map process_of l.processes)
