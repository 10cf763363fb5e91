use Rattle.std.proofs.Common.{◌≤◌, arith, length, refl}
use Rattle.std.proofs.lemmas.Option.{slice_get_read}
use Rattle.lotos_check.proofs.ListIndices.{get_in}
use Rattle.lotos_compare.proofs.PartnerLabels.{have_all, have_more}
use Rattle.lotos_compare.proofs.common_gates.first_alone.Goals as goal

pub loop-label-init : goal.loop-label-init
loop-label-init c = λ own other named named' are over k m below at. absurd (omega (arith, below))

pub has_partner-requires-clause-valid : goal.has_partner-requires-clause-valid
has_partner-requires-clause-valid c =
    let (own, other, are, over) = c.requires.valid in
    let at = slice_get_read c.args.labels.now _ _ _ refl c.loop-label-test.true c.label-item.is in
    (own, other, are, over c.label-item.result (get_in c.args.labels.now _ c.label-item.result at))

pub returns-then-not-has_partner : goal.returns-then-not-has_partner
returns-then-not-has_partner c = λ own other named named' are over.
    let at = slice_get_read c.args.labels.now _ _ _ refl c.loop-label-test.true c.label-item.is in
    let tells = c.has_partner.ensures own other named named' are (over c.label-item.result (get_in c.args.labels.now _ c.label-item.result at)) in
    record {
      index = c.loop-label.label-index;
      here = at;
      alone = rw c.if-not-has_partner.true at tells;
      before = c.loop-label.invariant own other named named' are over;
    }

pub loop-label-preserved : goal.loop-label-preserved
loop-label-preserved c = λ own other named named' are over.
    let at = slice_get_read c.args.labels.now _ _ _ refl c.loop-label-test.true c.label-item.is in
    let tells = c.has_partner.ensures own other named named' are (over c.label-item.result (get_in c.args.labels.now _ c.label-item.result at)) in
    have_more own other c.args.labels.now c.args.others.now c.loop-label.label-index (c.loop-label.invariant own other named named' are over)
    c.label-item.result at (rw c.if-not-has_partner.false at tells)

pub returns : goal.returns
returns c = λ own other named named' are over.
    let end : length c.args.labels.now ≤ c.loop-label.label-index = omega (arith, c.loop-label-test.false) in
    have_all own other c.args.labels.now c.args.others.now c.loop-label.label-index (c.loop-label.invariant own other named named' are over) end
