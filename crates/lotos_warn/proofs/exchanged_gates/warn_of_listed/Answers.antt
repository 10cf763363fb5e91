use Rattle.std.proofs.Common.{◌≡◌, ℕ, ◌<◌, ◌≤◌, length, map, arith}
use Rattle.lotos_check.specs.FlatOf.{process_of}
use Rattle.lotos_warn.specs.CallSites.{IsExchangeListed, IsExchangeOf, site_of}
use Rattle.lotos_warn.proofs.Additions.{adds_as, below_start, below_next, below_end}
use Rattle.lotos_warn.proofs.ExchangedSites.{listed_as, listed_within}
use Rattle.lotos_warn.proofs.exchanged_gates.warn_of_listed.Goals as goal

pub loop-index-init : goal.loop-index-init
loop-index-init c =
    below_start (IsExchangeListed (map process_of c.args.processes.now) (map site_of c.args.sites.now) c.args.numbers.now c.args.moved.now.keys)
    c.args.warnings.now.items

pub loop-index-preserved : goal.loop-index-preserved
loop-index-preserved c =
    let processes = map process_of c.args.processes.now in
    let sites = map site_of c.args.sites.now in
    let numbers = c.args.numbers.now in
    let moved = c.args.moved.now.keys in
    let k = c.number_at-process.result in
    let old = c.loop-index.warnings.items in
    let new = c.warn_of_calls_of.new.warnings.items in
    below_next (IsExchangeListed processes sites numbers moved) c.args.warnings.now.items old new c.loop-index.index c.loop-index.invariant
    (adds_as old new (IsExchangeOf processes sites numbers k) (IsExchangeListed processes sites numbers moved c.loop-index.index)
    (listed_as processes sites numbers moved c.loop-index.index k c.number_at-process.ensures) c.in_ok-warn_of_calls_of.ensures)

pub returns : goal.returns
returns c =
    let processes = map process_of c.args.processes.now in
    let sites = map site_of c.args.sites.now in
    let numbers = c.args.numbers.now in
    let moved = c.args.moved.now.keys in
    let listed = IsExchangeListed processes sites numbers moved in
    let counted = c.len-index-end.ensures.len in
    below_end listed c.args.warnings.now.items c.loop-index.warnings.items c.loop-index.index c.loop-index.invariant
    (λ i w x. let within = listed_within processes sites numbers moved i w x in omega arith)
