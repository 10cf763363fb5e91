use Rattle.std.proofs.Common.{◌≡◌, ◌⊎◌, map, subst}
use Rattle.indexmap.proofs.MapLemmas.{OnOk-map}
use Rattle.lotos_text.specs.AstOf.{definition_view}
use Rattle.lotos_check.specs.CheckedView.{system_of}
use Rattle.lotos_check.specs.Scope.{definitions_in}
use Rattle.lotos_warn.specs.Warnings.{IsWarning}
use Rattle.lotos_warn.specs.Additions.{Adds}
use Rattle.lotos_warn.specs.CallSites.{IsExchangeOfAny, IsExchangeWarning, IsOtherWarning, numbers_of, sites_from}
use Rattle.lotos_warn.proofs.Additions.{adds_as, adds_both}
use Rattle.lotos_warn.proofs.ExchangedCalls.{every_kind, exchanges}
use Rattle.lotos_warn.proofs.specification_warnings.add_warnings.Goals as goal

pub returns : goal.returns
returns c =
    let whole = definition_view c.args.whole.now in
    let system = system_of c.args.system.now in
    let old = c.args.warnings.now.items in
    let mid = c.add_other_warnings.new.warnings.items in
    let new = c.warn_of_exchanges.new.warnings.items in
    let views = map (λ d. definition_view d.now) c.args.definitions.now in
    OnOk-map c.warn_of_exchanges.result (Adds mid new (IsExchangeOfAny system.processes (sites_from 0 views) (numbers_of system)))
    (Adds old new (IsWarning whole)) (λ added.
    adds_as old new (λ w. IsOtherWarning whole w ⊎ IsExchangeWarning whole w) (IsWarning whole) (every_kind whole)
    (adds_both old mid new (IsOtherWarning whole) (IsExchangeWarning whole) c.in_ok-add_other_warnings.ensures
    (adds_as mid new (IsExchangeOfAny system.processes (sites_from 0 (definitions_in whole)) (numbers_of system)) (IsExchangeWarning whole)
    (exchanges c.binding_is_unique.ensures c.calls_fit.ensures.named whole system c.requires.accepted)
    (subst (λ ds. Adds mid new (IsExchangeOfAny system.processes (sites_from 0 ds) (numbers_of system))) c.requires.definitions added))))
    c.warn_of_exchanges.ensures
