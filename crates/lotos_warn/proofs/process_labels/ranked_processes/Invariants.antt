use Rattle.lotos_check.specs.CheckedView.{ranks_of}
use Rattle.lotos_warn.proofs.RankedLabels.{AreRankedTo}
use Rattle.lotos_warn.proofs.process_labels.ranked_processes.Given as goal

abbrev pub invariant-loop-number : goal.invariant-loop-number
invariant-loop-number l = AreRankedTo (ranks_of l.system) l.list.items l.number
