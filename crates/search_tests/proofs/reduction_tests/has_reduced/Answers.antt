use Rattle.search_tests.proofs.reduction_tests.has_reduced.Goals as goal

pub classes-requires : goal.classes-requires
classes-requires c = rw c.as_slice-2.ensures.value (rw c.as_slice.ensures.value at c.if-not-is_graph.ensures)

pub reduce-requires-clause-graph : goal.reduce-requires-clause-graph
reduce-requires-clause-graph c = rw c.as_slice-3.ensures.value (rw c.as_slice.ensures.value at c.if-not-is_graph.ensures)
