use Rattle.std.proofs.Common.{subst}
use Rattle.lotos_store.specs.Interning.{plain_lists}
use Rattle.lotos_suite.specs.GatheredLabels.{AddsGates}
use Rattle.lotos_suite.proofs.LabelsOfSuites.{labels_of}
use Rattle.lotos_suite.proofs.suite_alphabet.suite_labels.Goals as goal

pub returns : goal.returns
returns c =
    let gates = c.append_gates.new.labels.items in
    let from_own = subst (λ old. AddsGates c.args.gates.now c.args.own.now old gates) c.new-labels.ensures.items c.in_ok-append_gates.ensures in
    labels_of c.args.gates.now c.args.own.now (plain_lists c.args.graph.now) c.requires.named c.requires.printed _
    (λ k j text other h g less. (c.label_order_is_text_order.ensures c.args.gates.now c.requires.named k j text other h g).0 less) gates
    c.append_labels.new.labels.items c.sort_labels.new.labels.items from_own c.in_ok-append_labels.ensures c.sort_labels.ensures.same
    c.sort_labels.ensures.ascending
