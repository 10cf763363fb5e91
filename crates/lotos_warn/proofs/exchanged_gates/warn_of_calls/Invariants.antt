use Rattle.std.proofs.Common.{map}
use Rattle.lotos_check.specs.NameLists.{In}
use Rattle.lotos_warn.specs.CallSites.{IsExchangeAt, site_of}
use Rattle.lotos_warn.proofs.Additions.{AddsBelow}
use Rattle.lotos_warn.proofs.exchanged_gates.warn_of_calls.Given as goal

abbrev pub invariant-loop-index : goal.invariant-loop-index
invariant-loop-index l =
    AddsBelow (IsExchangeAt (map site_of l.sites) l.numbers (λ k. In k l.inside.keys) l.process l.own) l.fn.warnings.items l.warnings.items l.index
