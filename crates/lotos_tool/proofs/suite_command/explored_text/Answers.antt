use Rattle.std.proofs.Common.{◌∙◌, ap, inl, refl, subst, sym}
use Rattle.lotos_check.proofs.SameFault.{passed_on}
use Rattle.lotos_terms.specs.TableView.{AreGateNames, TableView}
use Rattle.lotos_suite.specs.SuiteResults.{returned_lines}
use Rattle.lotos_tool.specs.SuiteParts.{AreInOrder, HavePrintedLabels, IsSuiteHalt, IsTextOf, question_of}
use Rattle.lotos_tool.proofs.SuiteAnswers.{explored_halt, graph_for, made_for, returned_count}
use Rattle.lotos_tool.proofs.suite_command.explored_text.Goals as goal

pub returns-in_err-graph-clause-halts : goal.returns-in_err-graph-clause-halts
returns-in_err-graph-clause-halts g c =
    let q = question_of c.args.request.now c.args.sets.now c.args.own.now c.args.mark.now in
    passed_on (IsSuiteHalt q) c.from_residual.result _ c.from_residual.ensures.1 (explored_halt q _ c.in_err-graph.ensures.halts)

pub suite_of-requires-clause-named : goal.suite_of-requires-clause-named
suite_of-requires-clause-named g c = subst AreGateNames (sym c.gates-gates.ensures) c.recall_sound.ensures.sound.names

pub suite_of-requires-clause-automaton : goal.suite_of-requires-clause-automaton
suite_of-requires-clause-automaton g c =
    let q = question_of c.args.request.now c.args.sets.now c.args.own.now c.args.mark.now in
    let names = c.gates-gates.ensures ∙ ap (λ (t : TableView). t.names) c.table-table.ensures in (
      q,
      graph_for c.args.request.now c.args.sets.now _ c.args.own.now c.args.mark.now c.in_ok-graph.graph _ _ c.in_ok-graph.ensures.automaton names
          c.as_slice.ensures.value,
    )

pub text_of-requires-clause-printed : goal.text_of-requires-clause-printed
text_of-requires-clause-printed g c =
    subst (HavePrintedLabels c.gates-gates.result.now) (sym c.as_slice-2.ensures.value) c.in_ok-lines.ensures.printed

pub text_of-requires-clause-ordered : goal.text_of-requires-clause-ordered
text_of-requires-clause-ordered g c =
    let q = question_of c.args.request.now c.args.sets.now c.args.own.now c.args.mark.now in
    let names = c.gates-gates.ensures ∙ ap (λ (t : TableView). t.names) c.table-table.ensures in
    let for = graph_for c.args.request.now c.args.sets.now _ c.args.own.now c.args.mark.now c.in_ok-graph.graph _ _ c.in_ok-graph.ensures.automaton names
    c.as_slice.ensures.value in
    let whole = c.in_ok-lines.ensures.lines q for in
    subst (λ ls. AreInOrder (returned_lines c.gates-gates.result.now ls)) (sym c.as_slice-2.ensures.value) whole.suite.exact.ascending

pub text_of-requires-clause-limit : goal.text_of-requires-clause-limit
text_of-requires-clause-limit g c = c.requires.limit

pub returns-clause-made : goal.returns-clause-made
returns-clause-made g c =
    let q = question_of c.args.request.now c.args.sets.now c.args.own.now c.args.mark.now in
    let names = c.gates-gates.ensures ∙ ap (λ (t : TableView). t.names) c.table-table.ensures in
    let for = graph_for c.args.request.now c.args.sets.now _ c.args.own.now c.args.mark.now c.in_ok-graph.graph _ _ c.in_ok-graph.ensures.automaton names
    c.as_slice.ensures.value in
    let whole = c.in_ok-lines.ensures.lines q for in
    let is = subst (λ ls. IsTextOf c.args.mark.now c.args.request.now.limit (returned_lines c.gates-gates.result.now ls) c.in_ok-made.made)
    c.as_slice-2.ensures.value
    c.in_ok-made.ensures in
    made_for q _ c.in_ok-made.made whole (rw (returned_count c.gates-gates.result.now c.in_ok-lines.lines.items) c.in_ok-lines.ensures.few) is

pub returns-in_err-lines-clause-halts : goal.returns-in_err-lines-clause-halts
returns-in_err-lines-clause-halts g c =
    let q = question_of c.args.request.now c.args.sets.now c.args.own.now c.args.mark.now in
    let names = c.gates-gates.ensures ∙ ap (λ (t : TableView). t.names) c.table-table.ensures in
    let for = graph_for c.args.request.now c.args.sets.now _ c.args.own.now c.args.mark.now c.in_ok-graph.graph _ _ c.in_ok-graph.ensures.automaton names
    c.as_slice.ensures.value in
    let r = c.from_residual-in_err-lines in
    passed_on (IsSuiteHalt q) r.result _ r.ensures.1 (inl (c.in_err-lines.ensures.halts q for))

pub returns-in_err-made-clause-halts : goal.returns-in_err-made-clause-halts
returns-in_err-made-clause-halts g c =
    let q = question_of c.args.request.now c.args.sets.now c.args.own.now c.args.mark.now in
    let r = c.from_residual-in_err-made in
    passed_on (IsSuiteHalt q) r.result _ r.ensures.1 (inl (inl (refl, refl)))
