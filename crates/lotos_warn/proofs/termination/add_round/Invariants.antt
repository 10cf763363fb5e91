use Rattle.std.proofs.Common.{map}
use Rattle.lotos_check.specs.FlatOf.{process_of}
use Rattle.lotos_warn.proofs.ExitingNumbers.{IsRound}
use Rattle.lotos_warn.proofs.termination.add_round.Given as goal

abbrev pub invariant-loop-number : goal.invariant-loop-number
invariant-loop-number l = IsRound (map process_of l.processes) l.fn.exiting.keys l.exiting.keys l.number
