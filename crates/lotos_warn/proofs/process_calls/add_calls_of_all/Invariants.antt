use Rattle.std.proofs.Common.{map, drop}
use Rattle.lotos_check.specs.FlatOf.{process_of}
use Rattle.lotos_warn.specs.Additions.{IsCalledByAny}
use Rattle.lotos_warn.proofs.Additions.{AddsRest}
use Rattle.lotos_warn.proofs.process_calls.add_calls_of_all.Given as goal

abbrev pub invariant-loop-process : goal.invariant-loop-process
invariant-loop-process l =
    AddsRest l.fn.called.keys l.called.keys (IsCalledByAny (map process_of (drop l.process-index l.processes)))
    (IsCalledByAny (map process_of l.processes))
