use Rattle.std.proofs.Common.{◌≡◌, ◌++◌, drop}
use Rattle.lotos_check.proofs.UnrankedProcesses.{places}
use Rattle.lotos_check.proofs.guardedness.unranked_processes.Given as goal

abbrev pub invariant-loop-rank : goal.invariant-loop-rank
invariant-loop-rank l = record {
  here : l.process ≡ l.rank-index;
  rest : l.unranked.items ++ places l.rank-index (drop l.rank-index l.ranks) ≡ places 0 l.ranks;
}
