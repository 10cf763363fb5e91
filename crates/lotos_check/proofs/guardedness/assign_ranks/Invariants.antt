use Rattle.std.proofs.Common.{map, length, ◌-◌}
use Rattle.lotos_check.specs.RankingSteps.{AreConsistentRanks}
use Rattle.lotos_check.proofs.guardedness.assign_ranks.Given as goal

abbrev pub invariant-loop-next : goal.invariant-loop-next
invariant-loop-next l = AreConsistentRanks (map (λ v. v.items) l.edges) l.ranks l.next

abbrev pub decreases-loop-next : goal.decreases-loop-next
decreases-loop-next l = length l.edges - l.next
