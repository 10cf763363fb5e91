use Rattle.std.proofs.Common.{◌≤◌, ◌-◌, length}
use Rattle.lotos_warn.proofs.process_labels.unknown_labels.Given as goal

abbrev pub invariant-loop-alloc : goal.invariant-loop-alloc
invariant-loop-alloc l = length l.known.items ≤ l.count

abbrev pub decreases-loop-alloc : goal.decreases-loop-alloc
decreases-loop-alloc l = l.count - length l.known.items
