use Rattle.std.proofs.Common.{◌≡◌, ℕ, map}
use Rattle.lotos_check.specs.NameLists.{In}
use Rattle.lotos_warn.specs.CallSites.{IsExchangeAlone, IsExchangeAt, IsPeerAt, site_of}
use Rattle.lotos_warn.proofs.Additions.{adds_as, adds_nothing}
use Rattle.lotos_warn.proofs.ExchangedSites.{said, denied}
use Rattle.lotos_warn.proofs.exchanged_gates.warn_unless_peer.Goals as goal

pub returns-then-has_peer : goal.returns-then-has_peer
returns-then-has_peer c =
    let sites = map site_of c.args.sites.now in
    let peer = IsPeerAt sites c.args.numbers.now (λ k. In k c.args.inside.now.keys) c.args.process c.args.own.now in
    let found = said ((i : ℕ) × peer i) ((i : ℕ) → peer i → ⊥) c.has_peer.result c.has_peer.ensures c.if-has_peer.true in
    adds_nothing c.args.warnings.now.items (IsExchangeAlone sites c.args.numbers.now (λ k. In k c.args.inside.now.keys) c.args.process c.args.own.now)
    (λ w h. h.0 found.0 found.1)

pub returns-in_ok-warn_of_calls : goal.returns-in_ok-warn_of_calls
returns-in_ok-warn_of_calls c =
    let sites = map site_of c.args.sites.now in
    let peer = IsPeerAt sites c.args.numbers.now (λ k. In k c.args.inside.now.keys) c.args.process c.args.own.now in
    let exchange = IsExchangeAt sites c.args.numbers.now (λ k. In k c.args.inside.now.keys) c.args.process c.args.own.now in
    let none = denied ((i : ℕ) × peer i) ((i : ℕ) → peer i → ⊥) c.has_peer.result c.has_peer.ensures c.if-has_peer.false in
    adds_as c.args.warnings.now.items c.warn_of_calls.new.warnings.items (λ w. (i : ℕ) × exchange i w)
    (IsExchangeAlone sites c.args.numbers.now (λ k. In k c.args.inside.now.keys) c.args.process c.args.own.now)
    (λ w. ((λ x. (none, x)), (λ h. h.1))) c.in_ok-warn_of_calls.ensures
