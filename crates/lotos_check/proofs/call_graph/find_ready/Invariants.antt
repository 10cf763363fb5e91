use Rattle.std.proofs.Common.{ℕ, ◌<◌}
use Rattle.lotos_check.specs.NameLists.{In}
use Rattle.lotos_check.proofs.call_graph.find_ready.Given as goal

abbrev pub invariant-loop-process : goal.invariant-loop-process
invariant-loop-process l = (p : ℕ) → In p l.ready.items → p < l.process
