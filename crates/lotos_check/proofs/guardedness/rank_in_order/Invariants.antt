use Rattle.std.proofs.Common.{map}
use Rattle.lotos_check.specs.RankingSteps.{AreConsistentRanks}
use Rattle.lotos_check.proofs.guardedness.rank_in_order.Given as goal

abbrev pub invariant-loop-process : goal.invariant-loop-process
invariant-loop-process l = AreConsistentRanks (map (λ v. v.items) l.edges) l.ranks l.next
