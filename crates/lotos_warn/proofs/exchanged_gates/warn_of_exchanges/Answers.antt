use Rattle.std.proofs.Common.{◌≡◌, ◌++◌, map, ap, ◌∙◌, subst}
use Rattle.std.proofs.lemmas.Result.{on_ok_weaker}
use Rattle.lotos_text.specs.AstOf.{definition_view}
use Rattle.lotos_check.specs.CheckedView.{system_of, process_of}
use Rattle.lotos_warn.specs.Additions.{Adds}
use Rattle.lotos_warn.specs.CallSites.{IsExchangeOfAny, numbers_of, site_of, sites_from}
use Rattle.lotos_warn.proofs.exchanged_gates.warn_of_exchanges.Goals as goal

pub returns : goal.returns
returns c =
    let system = system_of c.args.system.now in
    let all = sites_from 0 (map (λ d. definition_view d.now) c.args.definitions.now) in
    let old = c.args.warnings.now.items in
    let new = c.warn_of_sites.new.warnings.items in
    let sites : map site_of c.as_slice.result.now ≡ all = ap (map site_of) c.as_slice.ensures.value
    ∙ (c.in_ok-add_sites_of_all.ensures ∙ ap (λ xs. map site_of xs ++ all) c.new-sites.ensures.items) in
    let numbers : c.as_slice-2.result.now ≡ numbers_of system = c.as_slice-2.ensures.value ∙ c.in_ok-numbers.ensures in
    on_ok_weaker c.warn_of_sites.result
    (λ h. subst (λ ps. Adds old new (IsExchangeOfAny ps all (numbers_of system))) c.processes.ensures
    (subst (λ ss. Adds old new (IsExchangeOfAny (map process_of c.processes.result.now) ss (numbers_of system))) sites
    (subst (λ ns. Adds old new (IsExchangeOfAny (map process_of c.processes.result.now) (map site_of c.as_slice.result.now) ns)) numbers h)))
    c.warn_of_sites.ensures
