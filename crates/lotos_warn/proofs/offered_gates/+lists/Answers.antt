use Rattle.std.proofs.Common.{[], map, ap, refl, subst}
use Rattle.std.proofs.lemmas.Result.{on_ok_weaker}
use Rattle.lotos_text.specs.AstOf.{behaviour_view, sync_view}
use Rattle.lotos_warn.specs.Additions.{Adds, AddsNames}
use Rattle.lotos_warn.specs.Warnings.{IsListWarning, IsOfferedApart, OffersFree}
use Rattle.lotos_text.proofs.TwoOperands.{by_operands}
use Rattle.lotos_warn.proofs.GateAdditions.{offers_prefix, offers_choice, offers_par, offers_hide, offers_enable, offers_disable, offers_call}
use Rattle.lotos_warn.proofs.ApartGates.{apart_prefix, apart_choice, apart_par, apart_hide, apart_enable, apart_disable}
use Rattle.lotos_warn.proofs.ListWarnings.{lists_prefix, lists_choice, lists_par, lists_hide, lists_enable, lists_disable}
use Rattle.lotos_warn.proofs.offered_gates.+lists.Goals as goal

pub warn_of_lists-returns-in_ok-insert_action-in-Prefix-clause-offers : goal.warn_of_lists-returns-in_ok-insert_action-in-Prefix-clause-offers
warn_of_lists-returns-in_ok-insert_action-in-Prefix-clause-offers t c =
    rw c.in-Prefix.is (on_ok_weaker c.warn_of_lists.result
    (λ h. offers_prefix (map (λ k. k.now) c.args.offered.now.keys) (map (λ k. k.now) c.insert_action.new.into.keys)
    (map (λ k. k.now) c.warn_of_lists.new.offered.keys)
    c.in-Prefix.action (behaviour_view c.in-Prefix.body.value) c.in_ok-insert_action-in-Prefix.ensures (rw c.deref.ensures at h))
    c.warn_of_lists.ensures.offers)

pub warn_of_lists-returns-in_ok-insert_action-in-Prefix-clause-apart : goal.warn_of_lists-returns-in_ok-insert_action-in-Prefix-clause-apart
warn_of_lists-returns-in_ok-insert_action-in-Prefix-clause-apart t c =
    rw c.in-Prefix.is (on_ok_weaker c.warn_of_lists.result
    (λ h. apart_prefix (map (λ k. k.now) c.args.apart.now.keys) (map (λ k. k.now) c.warn_of_lists.new.apart.keys)
    c.in-Prefix.action (behaviour_view c.in-Prefix.body.value) (rw c.deref.ensures at h))
    c.warn_of_lists.ensures.apart)

pub warn_of_lists-returns-in_ok-insert_action-in-Prefix-clause-warns : goal.warn_of_lists-returns-in_ok-insert_action-in-Prefix-clause-warns
warn_of_lists-returns-in_ok-insert_action-in-Prefix-clause-warns t c =
    rw c.in-Prefix.is (on_ok_weaker c.warn_of_lists.result
    (λ h. lists_prefix c.args.warnings.now.items c.warn_of_lists.new.warnings.items c.in-Prefix.action (behaviour_view c.in-Prefix.body.value)
    (rw c.deref.ensures at h))
    c.warn_of_lists.ensures.warns)

pub warn_of_lists-returns-in_ok-warn_of_lists-in-Choice-clause-offers : goal.warn_of_lists-returns-in_ok-warn_of_lists-in-Choice-clause-offers
warn_of_lists-returns-in_ok-warn_of_lists-in-Choice-clause-offers t c =
    let old = map (λ k. k.now) c.args.offered.now.keys in
    let mid = map (λ k. k.now) c.warn_of_lists-in-Choice.new.offered.keys in
    let new = map (λ k. k.now) c.warn_of_lists-in-Choice-2.new.offered.keys in
    let l = behaviour_view c.in-Choice.left.value in
    let r = behaviour_view c.in-Choice.right.value in
    let first = rw c.deref-in-Choice.ensures at c.in_ok-warn_of_lists-in-Choice.ensures.offers in
    on_ok_weaker c.warn_of_lists-in-Choice-2.result
    (λ h. let second = rw c.deref-in-Choice-2.ensures at h in
    by_operands (λ b. Adds old new (OffersFree b)) c.args.behaviour.now c.in-Choice.left c.in-Choice.right
    (offers_choice old mid new l r first second) (λ at. offers_enable old mid new l at r first second) (offers_disable old mid new l r first second)
    c.in-Choice.is)
    c.warn_of_lists-in-Choice-2.ensures.offers

pub warn_of_lists-returns-in_ok-warn_of_lists-in-Choice-clause-apart : goal.warn_of_lists-returns-in_ok-warn_of_lists-in-Choice-clause-apart
warn_of_lists-returns-in_ok-warn_of_lists-in-Choice-clause-apart t c =
    let old = map (λ k. k.now) c.args.apart.now.keys in
    let mid = map (λ k. k.now) c.warn_of_lists-in-Choice.new.apart.keys in
    let new = map (λ k. k.now) c.warn_of_lists-in-Choice-2.new.apart.keys in
    let l = behaviour_view c.in-Choice.left.value in
    let r = behaviour_view c.in-Choice.right.value in
    let first = rw c.deref-in-Choice.ensures at c.in_ok-warn_of_lists-in-Choice.ensures.apart in
    on_ok_weaker c.warn_of_lists-in-Choice-2.result
    (λ h. let second = rw c.deref-in-Choice-2.ensures at h in
    by_operands (λ b. Adds old new (λ n. IsOfferedApart n b)) c.args.behaviour.now c.in-Choice.left c.in-Choice.right
    (apart_choice old mid new l r first second) (λ at. apart_enable old mid new l r first second at) (apart_disable old mid new l r first second)
    c.in-Choice.is)
    c.warn_of_lists-in-Choice-2.ensures.apart

pub warn_of_lists-returns-in_ok-warn_of_lists-in-Choice-clause-warns : goal.warn_of_lists-returns-in_ok-warn_of_lists-in-Choice-clause-warns
warn_of_lists-returns-in_ok-warn_of_lists-in-Choice-clause-warns t c =
    let old = c.args.warnings.now.items in
    let mid = c.warn_of_lists-in-Choice.new.warnings.items in
    let new = c.warn_of_lists-in-Choice-2.new.warnings.items in
    let l = behaviour_view c.in-Choice.left.value in
    let r = behaviour_view c.in-Choice.right.value in
    let first = rw c.deref-in-Choice.ensures at c.in_ok-warn_of_lists-in-Choice.ensures.warns in
    on_ok_weaker c.warn_of_lists-in-Choice-2.result
    (λ h. let second = rw c.deref-in-Choice-2.ensures at h in
    by_operands (λ b. Adds old new (IsListWarning b)) c.args.behaviour.now c.in-Choice.left c.in-Choice.right
    (lists_choice old mid new l r first second) (λ at. lists_enable old mid new l r first second at) (lists_disable old mid new l r first second)
    c.in-Choice.is)
    c.warn_of_lists-in-Choice-2.ensures.warns

pub warn_of_lists-returns-in_ok-insert_unsynchronized-in-Par-clause-offers : goal.warn_of_lists-returns-in_ok-insert_unsynchronized-in-Par-clause-offers
warn_of_lists-returns-in_ok-insert_unsynchronized-in-Par-clause-offers t c =
    rw c.in-Par.is (on_ok_weaker c.insert_both.result
    (λ h. offers_par (map (λ k. k.now) c.args.offered.now.keys) (map (λ k. k.now) c.insert_both.new.into.keys)
    (map (λ k. k.now) c.in_ok-by_left-in-Par.by_left.keys) (map (λ k. k.now) c.in_ok-by_right-in-Par.by_right.keys)
    (behaviour_view c.in-Par.left.value) (sync_view c.in-Par.sync) (behaviour_view c.in-Par.right.value)
    (rw c.deref-in-Par.ensures at c.in_ok-by_left-in-Par.ensures.offers) (rw c.deref-in-Par-2.ensures at c.in_ok-by_right-in-Par.ensures.offers) h)
    c.insert_both.ensures)

pub warn_of_lists-returns-in_ok-insert_unsynchronized-in-Par-clause-apart : goal.warn_of_lists-returns-in_ok-insert_unsynchronized-in-Par-clause-apart
warn_of_lists-returns-in_ok-insert_unsynchronized-in-Par-clause-apart t c =
    rw c.in-Par.is (on_ok_weaker c.insert_both.result
    (λ h. apart_par (map (λ k. k.now) c.args.apart.now.keys) (map (λ k. k.now) c.insert_unsynchronized.new.into.keys)
    (map (λ k. k.now) c.new-inside.result.keys) (map (λ k. k.now) c.warn_of_lists_in.new.apart.keys)
    (map (λ k. k.now) c.warn_of_lists_in-in-Par.new.apart.keys) (map (λ k. k.now) c.insert_common.new.into.keys)
    (map (λ k. k.now) c.in_ok-by_left-in-Par.by_left.keys) (map (λ k. k.now) c.in_ok-by_right-in-Par.by_right.keys)
    (behaviour_view c.in-Par.left.value) (sync_view c.in-Par.sync) (behaviour_view c.in-Par.right.value)
    (ap (map (λ k. k.now)) c.new-inside.ensures.empty)
    (rw c.deref-in-Par.ensures at c.in_ok-by_left-in-Par.ensures.offers) (rw c.deref-in-Par-2.ensures at c.in_ok-by_right-in-Par.ensures.offers)
    (rw c.deref-in-Par.ensures at c.in_ok-by_left-in-Par.ensures.apart) (rw c.deref-in-Par-2.ensures at c.in_ok-by_right-in-Par.ensures.apart)
    c.in_ok-insert_common-in-Par.ensures c.in_ok-insert_unsynchronized-in-Par.ensures)
    c.insert_both.ensures)

pub warn_of_lists-returns-in_ok-insert_unsynchronized-in-Par-clause-warns : goal.warn_of_lists-returns-in_ok-insert_unsynchronized-in-Par-clause-warns
warn_of_lists-returns-in_ok-insert_unsynchronized-in-Par-clause-warns t c =
    rw c.in-Par.is (on_ok_weaker c.insert_both.result
    (λ h. lists_par c.args.warnings.now.items c.warn_of_lists_in.new.warnings.items c.warn_of_lists_in-in-Par.new.warnings.items
    c.warn_of_list.new.warnings.items
    (map (λ k. k.now) c.in_ok-by_left-in-Par.by_left.keys) (map (λ k. k.now) c.in_ok-by_right-in-Par.by_right.keys)
    (behaviour_view c.in-Par.left.value) (sync_view c.in-Par.sync) (behaviour_view c.in-Par.right.value)
    (rw c.deref-in-Par.ensures at c.in_ok-by_left-in-Par.ensures.offers) (rw c.deref-in-Par-2.ensures at c.in_ok-by_right-in-Par.ensures.offers)
    (rw c.deref-in-Par.ensures at c.in_ok-by_left-in-Par.ensures.warns) (rw c.deref-in-Par-2.ensures at c.in_ok-by_right-in-Par.ensures.warns)
    c.in_ok-warn_of_list-in-Par.ensures)
    c.insert_both.ensures)

pub warn_of_lists-returns-in_ok-insert_unlisted-in-Hide-clause-offers : goal.warn_of_lists-returns-in_ok-insert_unlisted-in-Hide-clause-offers
warn_of_lists-returns-in_ok-insert_unlisted-in-Hide-clause-offers t c =
    rw c.in-Hide.is (on_ok_weaker c.insert_visible.result
    (λ h. offers_hide (map (λ k. k.now) c.args.offered.now.keys) (map (λ k. k.now) c.insert_visible.new.into.keys)
    [] (map (λ k. k.now) c.in_ok-by_body-in-Hide.by_body.keys)
    c.in-Hide.gates.items (behaviour_view c.in-Hide.body.value) refl
    (rw c.deref-in-Hide.ensures at c.in_ok-by_body-in-Hide.ensures.offers)
    (rw c.as_slice-in-Hide-3.ensures.value at (rw c.as_slice-in-Hide-2.ensures.keys at h)))
    c.insert_visible.ensures)

pub warn_of_lists-returns-in_ok-insert_unlisted-in-Hide-clause-apart : goal.warn_of_lists-returns-in_ok-insert_unlisted-in-Hide-clause-apart
warn_of_lists-returns-in_ok-insert_unlisted-in-Hide-clause-apart t c =
    rw c.in-Hide.is (on_ok_weaker c.insert_visible.result
    (λ h. apart_hide (map (λ k. k.now) c.args.apart.now.keys) (map (λ k. k.now) c.insert_unlisted.new.into.keys)
    (map (λ k. k.now) c.new-inside-in-Hide.result.keys) (map (λ k. k.now) c.warn_of_lists_in-in-Hide.new.apart.keys)
    c.in-Hide.gates.items (behaviour_view c.in-Hide.body.value) (ap (map (λ k. k.now)) c.new-inside-in-Hide.ensures.empty)
    (rw c.deref-in-Hide.ensures at c.in_ok-by_body-in-Hide.ensures.apart)
    (rw c.as_slice-in-Hide.ensures.value at c.in_ok-insert_unlisted-in-Hide.ensures))
    c.insert_visible.ensures)

pub warn_of_lists-returns-in_ok-insert_unlisted-in-Hide-clause-warns : goal.warn_of_lists-returns-in_ok-insert_unlisted-in-Hide-clause-warns
warn_of_lists-returns-in_ok-insert_unlisted-in-Hide-clause-warns t c =
    rw c.in-Hide.is (on_ok_weaker c.insert_visible.result
    (λ h. lists_hide c.args.warnings.now.items c.warn_of_lists_in-in-Hide.new.warnings.items c.warn_of_unsynchronized.new.warnings.items
    (map (λ k. k.now) c.new-inside-in-Hide.result.keys) (map (λ k. k.now) c.warn_of_lists_in-in-Hide.new.apart.keys)
    c.in-Hide.gates.items (behaviour_view c.in-Hide.body.value) (ap (map (λ k. k.now)) c.new-inside-in-Hide.ensures.empty)
    (rw c.deref-in-Hide.ensures at c.in_ok-by_body-in-Hide.ensures.apart) (rw c.deref-in-Hide.ensures at c.in_ok-by_body-in-Hide.ensures.warns)
    (rw c.as_slice.ensures.value at c.in_ok-warn_of_unsynchronized-in-Hide.ensures))
    c.insert_visible.ensures)

pub warn_of_lists-returns-in-Call-clause-offers : goal.warn_of_lists-returns-in-Call-clause-offers
warn_of_lists-returns-in-Call-clause-offers t c =
    rw c.in-Call.is (on_ok_weaker c.insert_names.result
    (λ h. offers_call (map (λ k. k.now) c.args.offered.now.keys) (map (λ k. k.now) c.insert_names.new.into.keys) _ c.in-Call.gates.items
    (rw c.as_slice-in-Call.ensures.value at h))
    c.insert_names.ensures)

pub warn_of_lists_in-returns-clause-offers : goal.warn_of_lists_in-returns-clause-offers
warn_of_lists_in-returns-clause-offers t c =
    subst (λ ks. AddsNames (λ k. k.now) ks c.warn_of_lists.new.offered.keys (OffersFree (behaviour_view c.args.part.now)))
    c.new-offered.ensures.empty c.in_ok-warn_of_lists.ensures.offers
