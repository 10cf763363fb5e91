use Rattle.std.proofs.Common.{◌≡◌, ℕ, ◌+◌, ◌<◌, ◌≤◌, length, map, sym, subst, arith}
use Rattle.std.proofs.lemmas.List.{length-map}
use Rattle.std.proofs.lemmas.Option.{slice_get_within}
use Rattle.lotos_check.specs.NameLists.{In, texts}
use Rattle.lotos_check.proofs.ListIndices.{get_some, map_read}
use Rattle.lotos_warn.specs.Warnings.{IsExchanged}
use Rattle.lotos_warn.specs.ShownNames.{shown_names}
use Rattle.lotos_warn.specs.declared.warning.Warning.TheVariants.{ExchangedGates}
use Rattle.lotos_warn.specs.CallSites.{IsExchangeAt, IsOuterAt, site_of}
use Rattle.lotos_warn.proofs.Additions.{AddsBelow, adds_as, adds_nothing, below_start, below_next, below_end}
use Rattle.lotos_warn.proofs.ExchangedSites.{said, denied, exchange_here, exchange_nowhere}
use Rattle.lotos_warn.proofs.exchanged_gates.warn_of_calls.Goals.{then-is_outer+in_ok-warn_if_exchanged, else-is_outer}
use Rattle.lotos_warn.proofs.exchanged_gates.warn_of_calls.Goals as goal

pub loop-index-init : goal.loop-index-init
loop-index-init c =
    below_start (IsExchangeAt (map site_of c.args.sites.now) c.args.numbers.now (λ k. In k c.args.inside.now.keys) c.args.process c.args.own.now)
    c.args.warnings.now.items

pub loop-index-preserved : goal.loop-index-preserved
loop-index-preserved c =
    let sites = map site_of c.args.sites.now in
    let numbers = c.args.numbers.now in
    let k = c.args.process in
    let own = c.args.own.now in
    let i = c.loop-index.index in
    let old = c.args.warnings.now.items in
    let now = c.loop-index.warnings.items in
    let at = IsExchangeAt sites numbers (λ j. In j c.args.inside.now.keys) k own in
    let within : i < length c.args.sites.now = omega arith in
    elim c.if-is_outer.branch [
      | then-is_outer+in_ok-warn_if_exchanged w ↦ (
          let x = site_of w.index-sites-index.result in
          let here = map_read site_of c.args.sites.now i w.index-sites-index.result within w.index-sites-index.is in
          let outer = IsOuterAt sites numbers (λ j. In j c.args.inside.now.keys) k i x in
          let is_outer = said outer (outer → ⊥) c.is_outer.result (c.is_outer.ensures x here) w.if-is_outer.true in
          let new = w.warn_if_exchanged.new.warnings.items in
          subst (λ v. AddsBelow at old v.items (i + 1)) (sym w.warnings-is)
          (below_next at old now new i c.loop-index.invariant
          (adds_as now new (λ y. IsExchanged (texts x.actuals) own × (y ≡ ExchangedGates x.callee (shown_names own))) (at i)
          (exchange_here sites numbers (λ j. In j c.args.inside.now.keys) k i x here own is_outer) w.in_ok-warn_if_exchanged.ensures)))
      | else-is_outer w ↦ (
          let (z, there) = get_some sites i (let counted = length-map c.args.sites.now site_of in omega arith) in
          let outer = IsOuterAt sites numbers (λ j. In j c.args.inside.now.keys) k i z in
          let none = denied outer (outer → ⊥) c.is_outer.result (c.is_outer.ensures z there) w.if-is_outer.false in
          subst (λ v. AddsBelow at old v.items (i + 1)) (sym w.warnings-is)
          (below_next at old now now i c.loop-index.invariant
          (adds_nothing now (at i) (exchange_nowhere sites numbers (λ j. In j c.args.inside.now.keys) k i z there own none))))
    ]

pub returns : goal.returns
returns c =
    let sites = map site_of c.args.sites.now in
    let counted = length-map c.args.sites.now site_of in
    below_end (IsExchangeAt sites c.args.numbers.now (λ k. In k c.args.inside.now.keys) c.args.process c.args.own.now)
    c.args.warnings.now.items c.loop-index.warnings.items c.loop-index.index c.loop-index.invariant
    (λ i w x. let within = slice_get_within sites i x.0 x.1.located in omega arith)
