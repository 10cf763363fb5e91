use Rattle.std.proofs.Common.{arith}
use Rattle.lotos_check.proofs.UnrankedProcesses.{places_end, are_waiting}
use Rattle.lotos_check.proofs.guardedness.unranked_processes.Goals as goal

pub returns : goal.returns
returns c = are_waiting c.loop-rank.unranked.items c.args.ranks.now
    (places_end c.loop-rank.unranked.items c.loop-rank.rank-index c.args.ranks.now
    (omega (arith, c.loop-rank-test.false)) c.loop-rank.invariant.rest)
