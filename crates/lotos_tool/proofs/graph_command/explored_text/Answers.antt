use Rattle.std.proofs.Common.{◌∙◌, ap, inl}
use Rattle.std.proofs.lemmas.Result.{IfErr-weaker, IfOk-weaker}
use Rattle.lotos_check.proofs.SameFault.{passed_on}
use Rattle.lotos_terms.specs.TableView.{TableView}
use Rattle.lotos_automaton.specs.BoundedBehaviours.{bounded_of}
use Rattle.lotos_tool.specs.ExplorationParts.{IsHalt, IsMemoryHalt}
use Rattle.lotos_tool.proofs.GraphAnswers.{is_made}
use Rattle.lotos_tool.proofs.graph_command.explored_text.Goals as goal

pub returns-in_err-graph-clause-halts : goal.returns-in_err-graph-clause-halts
returns-in_err-graph-clause-halts g c =
    passed_on (IsHalt (bounded_of c.args.sets.now c.args.states)) c.from_residual.result _ c.from_residual.ensures.1 c.in_err-graph.ensures.halts

pub text_of-requires : goal.text_of-requires
text_of-requires g c =
    let found = c.in_ok-graph.ensures.automaton in
    let names = c.gates.ensures ∙ ap (λ (t : TableView). t.names) c.table.ensures ∙ found.names in
    rw (names, c.as_slice.ensures.value) (λ k list at l m i. found.automaton.explored.printed k list l m at i)

pub returns-clause-automaton : goal.returns-clause-automaton
returns-clause-automaton g c =
    let found = c.in_ok-graph.ensures.automaton in
    let names = c.gates.ensures ∙ ap (λ (t : TableView). t.names) c.table.ensures ∙ found.names in
    IfOk-weaker c.text_of.result _ _
    (λ made h. is_made (bounded_of c.args.sets.now c.args.states) c.in_ok-graph.graph.items found.access found.automaton found.clear _ _ names
    c.as_slice.ensures.value made h)
    c.text_of.ensures.made

pub returns-clause-halts : goal.returns-clause-halts
returns-clause-halts g c =
    IfErr-weaker c.text_of.result IsMemoryHalt (IsHalt (bounded_of c.args.sets.now c.args.states)) (λ h memory. inl memory) c.text_of.ensures.halts
