use Rattle.std.proofs.Common.{◌≡◌, ◌++◌, map, drop, Some}
use Rattle.lotos_check.proofs.guardedness.unwrap_ranks.Given as goal

abbrev pub invariant-loop-rank : goal.invariant-loop-rank
invariant-loop-rank l = map Some l.all_ranks.items ++ drop l.rank-index l.ranks ≡ l.ranks
