use Rattle.std.proofs.Common.{ℕ, ◌≡◌, ◌<◌, length}
use Rattle.lotos_check.specs.NameLists.{In}
use Rattle.lotos_check.proofs.call_graph.callee_first_order.Given as goal

abbrev pub invariant-loop-index : goal.invariant-loop-index
invariant-loop-index l = record {
  sized : length l.left.items ≡ length l.edges;
  within : (p : ℕ) → In p l.order.items → p < length l.edges;
}
