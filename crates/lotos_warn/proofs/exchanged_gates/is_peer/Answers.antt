use Rattle.std.proofs.Common.{map, get_or}
use Rattle.lotos_check.specs.NameLists.{In}
use Rattle.lotos_warn.specs.CallSites.{IsOuterAt, site_of}
use Rattle.lotos_warn.proofs.ExchangedSites.{map_get, peer_tested, said}
use Rattle.lotos_warn.proofs.exchanged_gates.is_peer.Goals as goal

pub returns-then-is_outer : goal.returns-then-is_outer
returns-then-is_outer c =
    let sites = map site_of c.args.sites.now in
    let x = site_of (get_or c.args.sites.now c.args.index c.index-sites-index.result) in
    let here = map_get site_of c.args.sites.now c.args.index c.index-sites-index.result c.requires in
    let outer = IsOuterAt sites c.args.numbers.now (λ k. In k c.args.inside.now.keys) c.args.process c.args.index x in
    peer_tested sites c.args.numbers.now (λ k. In k c.args.inside.now.keys) c.args.process c.args.index x here c.args.own.now c.are_names.result
    (said outer (outer → ⊥) c.is_outer.result (c.is_outer.ensures x here) c.if-is_outer.true) c.are_names.ensures
