use Rattle.std.proofs.Common.{◌≡◌, ℕ, ◌<◌, ◌≤◌, map}
use Rattle.lotos_check.specs.RankingSteps.{AreConsistentRanks, IsStuckAt}
use Rattle.lotos_check.proofs.guardedness.rank_round.Given as goal

abbrev pub invariant-loop-process : goal.invariant-loop-process
invariant-loop-process l = record {
  ordered : AreConsistentRanks (map (λ v. v.items) l.edges) l.ranks l.now;
  up : l.next ≤ l.now;
  stuck : l.now ≡ l.next → (k : ℕ) → k < l.process → IsStuckAt (map (λ v. v.items) l.edges) l.ranks k;
}
