use Rattle.std.proofs.Common.{map, take}
use Rattle.lotos_check.specs.Flat.{Pairwise}
use Rattle.lotos_check.specs.RankingSteps.{AreCalls}
use Rattle.lotos_check.specs.CheckedView.{process_of}
use Rattle.lotos_check.proofs.call_graph.unguarded_calls.Given as goal

abbrev pub invariant-loop-process : goal.invariant-loop-process
invariant-loop-process l =
    Pairwise AreCalls (map (λ calls. calls.items) l.edges.items)
    (map process_of (take l.process-index l.processes))
