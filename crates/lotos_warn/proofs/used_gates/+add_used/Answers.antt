use Rattle.std.proofs.Common.{map, ap}
use Rattle.std.proofs.lemmas.Result.{on_ok_weaker}
use Rattle.lotos_text.specs.AstOf.{behaviour_view, sync_view}
use Rattle.lotos_warn.specs.Additions.{Adds}
use Rattle.lotos_warn.specs.Warnings.{UsesFree, IsHidingWarning}
use Rattle.lotos_text.proofs.TwoOperands.{by_operands}
use Rattle.lotos_warn.proofs.GateAdditions.{uses_prefix, uses_choice, uses_par, uses_hide, uses_enable, uses_disable, uses_call}
use Rattle.lotos_warn.proofs.HidingWarnings.{hidings_prefix, hidings_choice, hidings_par, hidings_hide, hidings_enable, hidings_disable}
use Rattle.lotos_warn.proofs.used_gates.+add_used.Goals as goal

pub returns-in_ok-insert_action-in-Prefix-clause-uses : goal.returns-in_ok-insert_action-in-Prefix-clause-uses
returns-in_ok-insert_action-in-Prefix-clause-uses t c =
    rw c.in-Prefix.is (on_ok_weaker c.add_used.result
    (λ h. uses_prefix (map (λ k. k.now) c.args.into.now.keys) (map (λ k. k.now) c.insert_action.new.into.keys) (map (λ k. k.now) c.add_used.new.into.keys)
    c.in-Prefix.action (behaviour_view c.in-Prefix.body.value) c.in_ok-insert_action-in-Prefix.ensures (rw c.deref.ensures at h))
    c.add_used.ensures.uses)

pub returns-in_ok-insert_action-in-Prefix-clause-warns : goal.returns-in_ok-insert_action-in-Prefix-clause-warns
returns-in_ok-insert_action-in-Prefix-clause-warns t c =
    rw c.in-Prefix.is (on_ok_weaker c.add_used.result
    (λ h. hidings_prefix c.args.warnings.now.items c.add_used.new.warnings.items c.in-Prefix.action (behaviour_view c.in-Prefix.body.value)
    (rw c.deref.ensures at h))
    c.add_used.ensures.warns)

pub returns-in_ok-add_used-in-Choice-clause-uses : goal.returns-in_ok-add_used-in-Choice-clause-uses
returns-in_ok-add_used-in-Choice-clause-uses t c =
    let old = map (λ k. k.now) c.args.into.now.keys in
    let mid = map (λ k. k.now) c.add_used-in-Choice.new.into.keys in
    let new = map (λ k. k.now) c.add_used-in-Choice-2.new.into.keys in
    let l = behaviour_view c.in-Choice.left.value in
    let r = behaviour_view c.in-Choice.right.value in
    let first = rw c.deref-in-Choice.ensures at c.in_ok-add_used-in-Choice.ensures.uses in
    on_ok_weaker c.add_used-in-Choice-2.result
    (λ h. let second = rw c.deref-in-Choice-2.ensures at h in
    by_operands (λ b. Adds old new (UsesFree b)) c.args.behaviour.now c.in-Choice.left c.in-Choice.right
    (uses_choice old mid new l r first second) (λ at. uses_enable old mid new l at r first second) (uses_disable old mid new l r first second) c.in-Choice.is)
    c.add_used-in-Choice-2.ensures.uses

pub returns-in_ok-add_used-in-Choice-clause-warns : goal.returns-in_ok-add_used-in-Choice-clause-warns
returns-in_ok-add_used-in-Choice-clause-warns t c =
    let old = c.args.warnings.now.items in
    let mid = c.add_used-in-Choice.new.warnings.items in
    let new = c.add_used-in-Choice-2.new.warnings.items in
    let l = behaviour_view c.in-Choice.left.value in
    let r = behaviour_view c.in-Choice.right.value in
    let first = rw c.deref-in-Choice.ensures at c.in_ok-add_used-in-Choice.ensures.warns in
    on_ok_weaker c.add_used-in-Choice-2.result
    (λ h. let second = rw c.deref-in-Choice-2.ensures at h in
    by_operands (λ b. Adds old new (IsHidingWarning b)) c.args.behaviour.now c.in-Choice.left c.in-Choice.right
    (hidings_choice old mid new l r first second) (λ at. hidings_enable old mid new l r first second at) (hidings_disable old mid new l r first second)
    c.in-Choice.is)
    c.add_used-in-Choice-2.ensures.warns

pub returns-in_ok-insert_list-in-Par-clause-uses : goal.returns-in_ok-insert_list-in-Par-clause-uses
returns-in_ok-insert_list-in-Par-clause-uses t c =
    rw c.in-Par.is (on_ok_weaker c.add_used-in-Par-2.result
    (λ h. uses_par (map (λ k. k.now) c.args.into.now.keys) (map (λ k. k.now) c.add_used-in-Par.new.into.keys) (map (λ k. k.now) c.insert_list.new.into.keys)
    (map (λ k. k.now) c.add_used-in-Par-2.new.into.keys)
    (behaviour_view c.in-Par.left.value) (sync_view c.in-Par.sync) (behaviour_view c.in-Par.right.value)
    (rw c.deref-in-Par.ensures at c.in_ok-add_used-in-Par.ensures.uses) c.in_ok-insert_list-in-Par.ensures (rw c.deref-in-Par-2.ensures at h))
    c.add_used-in-Par-2.ensures.uses)

pub returns-in_ok-insert_list-in-Par-clause-warns : goal.returns-in_ok-insert_list-in-Par-clause-warns
returns-in_ok-insert_list-in-Par-clause-warns t c =
    rw c.in-Par.is (on_ok_weaker c.add_used-in-Par-2.result
    (λ h. hidings_par c.args.warnings.now.items c.add_used-in-Par.new.warnings.items c.add_used-in-Par-2.new.warnings.items
    (behaviour_view c.in-Par.left.value) (behaviour_view c.in-Par.right.value)
    (rw c.deref-in-Par.ensures at c.in_ok-add_used-in-Par.ensures.warns) (rw c.deref-in-Par-2.ensures at h) (sync_view c.in-Par.sync))
    c.add_used-in-Par-2.ensures.warns)

pub returns-in_ok-warn_of_unused_hidden-in-Hide-clause-uses : goal.returns-in_ok-warn_of_unused_hidden-in-Hide-clause-uses
returns-in_ok-warn_of_unused_hidden-in-Hide-clause-uses t c =
    rw c.in-Hide.is (on_ok_weaker c.insert_visible.result
    (λ h. uses_hide (map (λ k. k.now) c.args.into.now.keys) (map (λ k. k.now) c.insert_visible.new.into.keys)
    (map (λ k. k.now) c.new-inside.result.keys) (map (λ k. k.now) c.add_used-in-Hide.new.into.keys)
    c.in-Hide.gates.items (behaviour_view c.in-Hide.body.value) (ap (map (λ k. k.now)) c.new-inside.ensures.empty)
    (rw c.deref-in-Hide.ensures at c.in_ok-add_used-in-Hide.ensures.uses)
    (rw c.as_slice-in-Hide-2.ensures.value at (rw c.as_slice-in-Hide.ensures.keys at h)))
    c.insert_visible.ensures)

pub returns-in_ok-warn_of_unused_hidden-in-Hide-clause-warns : goal.returns-in_ok-warn_of_unused_hidden-in-Hide-clause-warns
returns-in_ok-warn_of_unused_hidden-in-Hide-clause-warns t c =
    rw c.in-Hide.is (on_ok_weaker c.insert_visible.result
    (λ h. hidings_hide c.args.warnings.now.items c.add_used-in-Hide.new.warnings.items c.warn_of_unused_hidden.new.warnings.items
    (map (λ k. k.now) c.new-inside.result.keys) (map (λ k. k.now) c.add_used-in-Hide.new.into.keys)
    c.in-Hide.gates.items (behaviour_view c.in-Hide.body.value) (ap (map (λ k. k.now)) c.new-inside.ensures.empty)
    (rw c.deref-in-Hide.ensures at c.in_ok-add_used-in-Hide.ensures.uses) (rw c.deref-in-Hide.ensures at c.in_ok-add_used-in-Hide.ensures.warns)
    (rw c.as_slice.ensures.value at c.in_ok-warn_of_unused_hidden-in-Hide.ensures))
    c.insert_visible.ensures)

pub returns-in-Call-clause-uses : goal.returns-in-Call-clause-uses
returns-in-Call-clause-uses t c =
    rw c.in-Call.is (on_ok_weaker c.insert_names.result
    (λ h. uses_call (map (λ k. k.now) c.args.into.now.keys) (map (λ k. k.now) c.insert_names.new.into.keys) _ c.in-Call.gates.items
    (rw c.as_slice-in-Call.ensures.value at h))
    c.insert_names.ensures)
