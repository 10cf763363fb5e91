use Rattle.std.proofs.Common.{◌≡◌, inl, refl, subst, sym}
use Rattle.lotos_check.specs.NameLists.{In}
use Rattle.lotos_check.proofs.SameFault.{passed_on}
use Rattle.lotos_store.specs.Interning.{plain_lists}
use Rattle.lotos_suite.specs.SuiteLabels.{AreLabelsOf}
use Rattle.lotos_suite.specs.SuiteResults.{returned_lines}
use Rattle.lotos_suite.specs.declared.suite_fault.SuiteFault.{SuiteFault}
use Rattle.lotos_suite.specs.declared.suite_fault.SuiteFault.TheVariants.{Memory, TooManyLines}
use Rattle.lotos_tool.specs.SuiteOutcome.{IsWholeSuite, SuiteQuestion}
use Rattle.lotos_tool.specs.SuiteParts.{IsGraphFor, IsSuiteFault, suite_halt}
use Rattle.lotos_tool.proofs.SuiteGraphs.{graph_printed, labels_named, too_many, whole_suite}
use Rattle.lotos_tool.proofs.suite_command.suite_of.Goals as goal

pub suite_labels-requires-clause-printed : goal.suite_labels-requires-clause-printed
suite_labels-requires-clause-printed c =
    let (q, for) = c.requires.automaton in
    graph_printed c.args.gates.now c.args.own.now (plain_lists c.args.graph.now) c.args.extra q for

pub find_suite-requires : goal.find_suite-requires
find_suite-requires c =
    let (q, for) = c.requires.automaton in
    let graph = plain_lists c.args.graph.now in
    let are = subst (AreLabelsOf c.args.gates.now c.args.own.now graph) (sym c.as_slice.ensures.value) c.in_ok-labels.ensures in
    record {
      automaton = (q.bounded.behaviour, for.access, for.automaton, labels_named c.args.gates.now c.args.own.now graph c.args.extra q for _ are);
    }

pub returns-clause-lines : goal.returns-clause-lines
returns-clause-lines c = λ q for.
    let graph = plain_lists c.args.graph.now in
    let names = c.args.gates.now in
    let are = subst (AreLabelsOf names c.args.own.now graph) (sym c.as_slice.ensures.value) c.in_ok-labels.ensures in
    let suite = c.in_ok-lines.ensures.lines q.bounded.behaviour for.access for.automaton
    (labels_named names c.args.own.now graph c.args.extra q for _ are) in
    subst (λ ns. IsWholeSuite q (returned_lines ns c.in_ok-lines.lines.items)) for.names_are
    (whole_suite names c.args.own.now graph c.args.extra q for _ are c.lines_miss_nothing.ensures _ suite)

pub returns-clause-printed : goal.returns-clause-printed
returns-clause-printed c = λ line i l there.
    c.in_ok-labels.ensures.suite.printed l (subst (In l) c.as_slice.ensures.value (c.in_ok-lines.ensures.known line i l there))

pub returns-in_err-labels-clause-halts : goal.returns-in_err-labels-clause-halts
returns-in_err-labels-clause-halts c = passed_on _ c.from_residual.result _ c.from_residual.ensures.1 (λ q for. inl (refl, refl))

pub returns-in_err-lines-clause-halts : goal.returns-in_err-lines-clause-halts
returns-in_err-lines-clause-halts c = passed_on _ c.from_residual-in_err-lines.result _ c.from_residual-in_err-lines.ensures.1
    (λ q for. go q for c.in_err-lines.field-0.0 refl)
  where
    go : (q : SuiteQuestion) → IsGraphFor c.args.gates.now c.args.own.now (plain_lists c.args.graph.now) c.args.extra q → (f : SuiteFault) →
        c.in_err-lines.field-0.0 ≡ f → IsSuiteFault q (suite_halt f)
    go q for Memory e = inl (refl, refl)
    go q for TooManyLines e =
        let graph = plain_lists c.args.graph.now in
        let names = c.args.gates.now in
        let are = subst (AreLabelsOf names c.args.own.now graph) (sym c.as_slice.ensures.value) c.in_ok-labels.ensures in
        too_many names c.args.own.now graph c.args.extra q for _ are _ refl
        (λ lines suite. c.in_err-lines.ensures.too_many e q.bounded.behaviour for.access lines for.automaton
        (labels_named names c.args.own.now graph c.args.extra q for _ are) suite)
