use Rattle.std.proofs.Common.{map}
use Rattle.lotos_check.specs.FlatOf.{process_of}
use Rattle.lotos_warn.specs.CallSites.{IsMovedAt, site_of}
use Rattle.lotos_warn.proofs.Additions.{AddsBelow}
use Rattle.lotos_warn.proofs.exchanged_gates.moved_processes.Given as goal

abbrev pub invariant-loop-index : goal.invariant-loop-index
invariant-loop-index l =
    AddsBelow (IsMovedAt (map process_of l.processes) (map site_of l.sites) l.numbers) l.initial.moved.keys l.moved.keys l.index
