use Rattle.std.proofs.Common.{arith, subst}
use Rattle.std.proofs.lemmas.List.{length-map}
use Rattle.lotos_store.specs.Interning.{plain_lists}
use Rattle.lotos_check.proofs.ListIndices.{map_read}
use Rattle.lotos_suite.specs.GatheredLabels.{AddsRow}
use Rattle.lotos_suite.proofs.LabelsOfSuites.{transitions_next, transitions_none, transitions_whole}
use Rattle.lotos_suite.proofs.suite_alphabet.append_labels.Goals as goal

pub loop-transitions-init : goal.loop-transitions-init
loop-transitions-init c = transitions_none c.args.labels.now.items

pub loop-transitions-preserved : goal.loop-transitions-preserved
loop-transitions-preserved c =
    let l = c.loop-transitions in
    let at = map_read (λ v. v.items) c.args.graph.now l.transitions-index c.transitions-item.result c.loop-transitions-test.true c.transitions-item.is in
    transitions_next (plain_lists c.args.graph.now) l.transitions-index _ c.args.labels.now.items l.labels.items c.append_row.new.labels.items at l.invariant
    (subst (λ row. AddsRow row l.labels.items c.append_row.new.labels.items) c.as_slice.ensures.value c.in_ok-append_row.ensures)

pub returns : goal.returns
returns c =
    let l = c.loop-transitions in
    let end = c.loop-transitions-test.false in
    let long = length-map c.args.graph.now (λ v. v.items) in
    transitions_whole (plain_lists c.args.graph.now) l.transitions-index c.args.labels.now.items l.labels.items (omega (arith, long)) l.invariant
