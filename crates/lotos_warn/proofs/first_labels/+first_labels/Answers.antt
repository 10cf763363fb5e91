use Rattle.std.proofs.Common.{◌⊎◌, map, inl, inr}
use Rattle.std.specs.Option.{option_map}
use Rattle.std.proofs.lemmas.Result.{IfOk-weaker}
use Rattle.lotos_check.specs.FlatOf.{flat_of, process_of}
use Rattle.lotos_warn.specs.declared.first_labels.FirstLabels.{FirstLabels}
use Rattle.lotos_warn.specs.LabelSets.{BeginsBy, Has, HasExactly}
use Rattle.lotos_warn.proofs.LabelSets.{none_exactly, termination_exactly, either_as, composed_as, hidden_as_inside, enabled_as}
use Rattle.lotos_warn.proofs.first_labels.+first_labels.Goals as goal

pub returns-in-Stop : goal.returns-in-Stop
returns-in-Stop t c = rw c.in-Stop.is (none_exactly c.without_gates.result _ (λ x h. h) c.without_gates.ensures)

pub returns-in-Exit : goal.returns-in-Exit
returns-in-Exit t c = rw c.in-Exit.is (termination_exactly c.without_gates-in-Exit.result c.without_gates-in-Exit.ensures)

pub returns-in-Prefix : goal.returns-in-Prefix
returns-in-Prefix t c = rw c.in-Prefix.is (IfOk-weaker c.action_label.result _ _ (λ r h. h) c.action_label.ensures)

pub returns-in_ok-second-in-Choice : goal.returns-in_ok-second-in-Choice
returns-in_ok-second-in-Choice t c =
    let begins = BeginsBy (map process_of c.args.processes.now) c.args.known.now in
    let left = flat_of c.in-Choice.left.value in
    let right = flat_of c.in-Choice.right.value in
    let first = c.in_ok-first-in-Choice in
    let second = c.in_ok-second-in-Choice in
    let as_forms : (r : FirstLabels) → HasExactly r (λ x. Has first.first x ⊎ Has second.second x) →
    HasExactly r (λ x. begins left x ⊎ begins right x) = (λ r h. either_as first.first second.second r (begins left) (begins right)
    (rw c.deref-in-Choice.ensures at first.ensures) (rw c.deref-in-Choice-2.ensures at second.ensures) h) in
    elim c.in-Choice.is [
      | inl e ↦ rw e (IfOk-weaker c.either.result _ _ as_forms c.either.ensures)
      | inr e ↦ rw e (IfOk-weaker c.either.result _ _ as_forms c.either.ensures)
    ]

pub returns-in_ok-second-in-Par : goal.returns-in_ok-second-in-Par
returns-in_ok-second-in-Par t c =
    let begins = BeginsBy (map process_of c.args.processes.now) c.args.known.now in
    let left = flat_of c.in-Par.left.value in
    let right = flat_of c.in-Par.right.value in
    rw c.in-Par.is (IfOk-weaker c.composed.result _ _
    (λ r h. composed_as c.in_ok-first-in-Par.first c.in_ok-second-in-Par.second r (begins left) (begins right)
    (rw c.deref.ensures at c.in_ok-first-in-Par.ensures) (rw c.deref-in-Par.ensures at c.in_ok-second-in-Par.ensures)
    (option_map (λ v. v.items) c.in-Par.sync) h)
    c.composed.ensures)

pub returns-in_ok-inside-in-Hide : goal.returns-in_ok-inside-in-Hide
returns-in_ok-inside-in-Hide t c =
    let begins = BeginsBy (map process_of c.args.processes.now) c.args.known.now in
    rw c.in-Hide.is (hidden_as_inside c.in_ok-inside-in-Hide.inside c.hidden.result (begins (flat_of c.in-Hide.body.value))
    c.in-Hide.gates.items (rw c.deref-in-Hide.ensures at c.in_ok-inside-in-Hide.ensures) (rw c.as_slice.ensures.value at c.hidden.ensures))

pub returns-in_ok-first-in-Enable : goal.returns-in_ok-first-in-Enable
returns-in_ok-first-in-Enable t c =
    let begins = BeginsBy (map process_of c.args.processes.now) c.args.known.now in
    rw c.in-Enable.is (enabled_as c.in_ok-first-in-Enable.first c.enabled.result (begins (flat_of c.in-Enable.left.value))
    (rw c.deref-in-Enable.ensures at c.in_ok-first-in-Enable.ensures) c.enabled.ensures)

pub returns-in-Call : goal.returns-in-Call
returns-in-Call t c = rw c.in-Call.is (rw c.as_slice-in-Call.ensures.value at (IfOk-weaker c.labels_of_call.result _ _ (λ r h. h) c.labels_of_call.ensures))
