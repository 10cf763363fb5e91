use Rattle.std.proofs.Common.{◌≡◌, ℕ, Some, map, slice_get}
use Rattle.lotos_check.specs.FlatOf.{process_of}
use Rattle.lotos_warn.specs.CallSites.{IsExchangeListed, site_of}
use Rattle.lotos_warn.proofs.Additions.{AddsBelow}
use Rattle.lotos_warn.proofs.exchanged_gates.warn_of_listed.Given as goal

abbrev pub invariant-loop-index : goal.invariant-loop-index
invariant-loop-index l =
    AddsBelow (IsExchangeListed (map process_of l.processes) (map site_of l.sites) l.numbers l.moved.keys) l.fn.warnings.items l.warnings.items l.index
