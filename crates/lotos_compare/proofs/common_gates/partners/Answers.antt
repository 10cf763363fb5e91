use Rattle.std.proofs.Common.{◌≡◌, ◌+◌, arith, length, refl, subst, sym}
use Rattle.std.proofs.lemmas.Option.{slice_get_read}
use Rattle.lotos_compare.proofs.PartnerLabels.{ArePartnersTo, partners_all, partners_none, partners_push}
use Rattle.lotos_compare.proofs.common_gates.partners.Goals as goal

pub loop-name-init : goal.loop-name-init
loop-name-init c = subst (ArePartnersTo c.args.names.now c.args.others.now 0) (sym c.new-list.ensures.items) (partners_none c.args.names.now c.args.others.now)

pub loop-name-preserved : goal.loop-name-preserved
loop-name-preserved c =
    let names = c.args.names.now in
    let others = c.args.others.now in
    let i = c.loop-name.name-index in
    let at = slice_get_read names _ _ _ refl c.loop-name-test.true c.name-item.is in
    subst (ArePartnersTo names others (i + 1)) (sym c.in_ok-push.ensures.items)
    (partners_push names others i c.loop-name.list.items _ c.gate_of.result c.loop-name.invariant at c.gate_of.ensures)

pub returns : goal.returns
returns c =
    let end : c.loop-name.name-index ≡ length c.args.names.now = omega (arith, c.loop-name-test.false, c.loop-name.auto.name-index-end) in
    partners_all c.args.names.now c.args.others.now c.loop-name.name-index c.loop-name.list.items c.loop-name.invariant end
