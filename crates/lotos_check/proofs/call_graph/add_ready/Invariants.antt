use Rattle.std.proofs.Common.{ℕ, ◌<◌, length}
use Rattle.lotos_check.specs.NameLists.{In}
use Rattle.lotos_check.proofs.call_graph.add_ready.Given as goal

abbrev pub invariant-loop-caller : goal.invariant-loop-caller
invariant-loop-caller l = (p : ℕ) → In p l.order.items → p < length l.left
