use Rattle.std.proofs.Common.{◌≡◌, length}
use Rattle.lotos_check.proofs.call_graph.count_calls.Given as goal

abbrev pub invariant-loop-calls : goal.invariant-loop-calls
invariant-loop-calls l = length l.left.items ≡ l.calls-index
