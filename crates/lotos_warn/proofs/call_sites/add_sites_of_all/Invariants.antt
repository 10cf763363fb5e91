use Rattle.std.proofs.Common.{◌≡◌, ◌++◌, map, drop}
use Rattle.lotos_text.specs.AstOf.{definition_view}
use Rattle.lotos_warn.specs.CallSites.{site_of, sites_from}
use Rattle.lotos_warn.proofs.call_sites.add_sites_of_all.Given as goal

abbrev pub invariant-loop-index : goal.invariant-loop-index
invariant-loop-index l =
    map site_of l.into.items ++ sites_from l.index (map (λ d. definition_view d.now) (drop l.index l.definitions))
    ≡ map site_of l.fn.into.items ++ sites_from 0 (map (λ d. definition_view d.now) l.definitions)
