use Rattle.std.proofs.Common.{◌+◌, ◌*◌, drop}
use Rattle.lotos_check.proofs.DistinctDefinitions.{Passed}
use Rattle.lotos_check.proofs.duplicates.+check_distinct.Given as goal

abbrev pub decreases-check_distinct : goal.decreases-check_distinct
decreases-check_distinct l = 2 * goal.size-check_distinct l + 1

abbrev pub decreases-check_inner : goal.decreases-check_inner
decreases-check_inner l = 2 * goal.size-check_inner l

abbrev pub invariant-check_inner-loop-inner : goal.invariant-check_inner-loop-inner
invariant-check_inner-loop-inner l = Passed (λ k. k.now) l.names.keys l.inner-items (drop l.inner-index l.inner-items)
