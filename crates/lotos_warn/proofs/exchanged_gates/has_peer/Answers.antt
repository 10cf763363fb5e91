use Rattle.std.proofs.Common.{◌≡◌, ◌<◌, map, length, arith}
use Rattle.std.proofs.lemmas.List.{length-map}
use Rattle.std.proofs.lemmas.Option.{slice_get_within}
use Rattle.lotos_check.specs.NameLists.{In}
use Rattle.lotos_warn.specs.CallSites.{IsPeerAt, site_of}
use Rattle.lotos_warn.proofs.ExchangedSites.{denied, none_next}
use Rattle.lotos_warn.proofs.exchanged_gates.has_peer.Goals as goal

pub loop-index-preserved : goal.loop-index-preserved
loop-index-preserved c =
    let peer = IsPeerAt (map site_of c.args.sites.now) c.args.numbers.now (λ k. In k c.args.inside.now.keys) c.args.process c.args.own.now in
    none_next peer c.loop-index.index c.loop-index.invariant
    (denied (peer c.loop-index.index) (peer c.loop-index.index → ⊥) c.is_peer.result c.is_peer.ensures c.if-is_peer.false)

pub returns : goal.returns
returns c = λ i p.
    let within = slice_get_within (map site_of c.args.sites.now) i p.0 p.1.located in
    let counted = length-map c.args.sites.now site_of in
    c.loop-index.invariant i (omega arith) p
