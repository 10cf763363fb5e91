use Rattle.std.proofs.Common.{◌≡◌, ◌<◌, Some, arith, length, refl, subst, sym, slice_get}
use Rattle.std.proofs.lemmas.Option.{slice_get_read}
use Rattle.lotos_check.proofs.ListIndices.{get_some}
use Rattle.lotos_compare.specs.CommonLabels.{IsLabelOver, IsPartnerLabel}
use Rattle.lotos_compare.proofs.PartnerLabels.{gate_answer}
use Rattle.lotos_compare.proofs.common_gates.partner_label.Goals as goal

pub returns-in-Gate : goal.returns-in-Gate
returns-in-Gate c = λ own other named named' are over.
    let g = c.in-Gate.gate in
    let within : g < length own = subst (IsLabelOver own) c.in-Gate.is over in
    let (n, at) = get_some own g within in
    let each = are.each in
    let there : slice_get c.args.partners.now g ≡ Some c.index-partners-number.result =
    subst (λ k. slice_get c.args.partners.now k ≡ Some c.index-partners-number.result) c.number-number.ensures
    (slice_get_read c.args.partners.now _ _ _ refl (omega (arith, c.number-number.ensures, within, each)) c.index-partners-number.is) in
    subst (λ k. IsPartnerLabel own other k c.gate_label.result) (sym c.in-Gate.is)
    (gate_answer own other c.args.partners.now are g n at (c.label_text_is_unique.ensures own named) c.index-partners-number.result there c.gate_label.result
    c.gate_label.ensures)
