use Rattle.std.proofs.Common.{◌≡◌, length, get_or, map, subst, arith}
use Rattle.std.proofs.lemmas.List.{length-map}
use Rattle.lotos_check.specs.NameLists.{In}
use Rattle.lotos_check.specs.FlatOf.{process_of}
use Rattle.lotos_warn.specs.Additions.{Adds}
use Rattle.lotos_warn.specs.CallSites.{IsExchangeAlone, IsExchangeOf, site_of}
use Rattle.lotos_warn.proofs.Additions.{adds_as, adds_nothing}
use Rattle.lotos_warn.proofs.ExchangedSites.{map_get, of_the_process, of_no_process}
use Rattle.lotos_warn.proofs.exchanged_gates.warn_of_calls_of.Goals as goal

pub returns-in_ok-warn_unless_peer : goal.returns-in_ok-warn_unless_peer
returns-in_ok-warn_unless_peer c =
    let processes = map process_of c.args.processes.now in
    let sites = map site_of c.args.sites.now in
    let numbers = c.args.numbers.now in
    let k = c.args.process in
    let own = process_of (get_or c.args.processes.now k c.index-processes-process.result) in
    let inside = c.in_ok-inside.inside.keys in
    let old = c.args.warnings.now.items in
    let new = c.warn_unless_peer.new.warnings.items in
    adds_as old new (IsExchangeAlone sites numbers (λ j. In j inside) k own.formals) (IsExchangeOf processes sites numbers k)
    (of_the_process processes sites numbers k own inside
    (map_get process_of c.args.processes.now k c.index-processes-process.result (omega arith)) c.in_ok-inside.ensures)
    (subst (λ names. Adds old new (IsExchangeAlone sites numbers (λ j. In j inside) k names)) c.as_slice-own.ensures.value
    c.in_ok-warn_unless_peer.ensures)

pub returns-else-process-processes : goal.returns-else-process-processes
returns-else-process-processes c =
    let counted = length-map c.args.processes.now process_of in
    adds_nothing c.args.warnings.now.items
    (IsExchangeOf (map process_of c.args.processes.now) (map site_of c.args.sites.now) c.args.numbers.now c.args.process)
    (of_no_process (map process_of c.args.processes.now) (map site_of c.args.sites.now) c.args.numbers.now c.args.process (omega arith))
