use Rattle.std.proofs.Common.{ℕ, map}
use Rattle.lotos_check.specs.FlatOf.{process_of}
use Rattle.lotos_warn.specs.CallSites.{IsExchangeListed, IsExchangeOfAny, site_of}
use Rattle.lotos_warn.proofs.Additions.{adds_as}
use Rattle.lotos_warn.proofs.ExchangedSites.{listed_all}
use Rattle.lotos_warn.proofs.exchanged_gates.warn_of_sites.Goals as goal

pub returns : goal.returns
returns c =
    let processes = map process_of c.args.processes.now in
    let sites = map site_of c.args.sites.now in
    let numbers = c.args.numbers.now in
    let moved = c.in_ok-moved.moved.keys in
    adds_as c.args.warnings.now.items c.warn_of_listed.new.warnings.items (λ w. (i : ℕ) × IsExchangeListed processes sites numbers moved i w)
    (IsExchangeOfAny processes sites numbers) (listed_all processes sites numbers moved c.in_ok-moved.ensures) c.in_ok-warn_of_listed.ensures
