use Rattle.std.proofs.Common.{◌≡◌, length}
use Rattle.lotos_check.specs.CheckedView.{system_of}
use Rattle.lotos_warn.proofs.RankedLabels.{AreKnownBefore}
use Rattle.lotos_warn.proofs.process_labels.process_labels.Given as goal

abbrev pub invariant-loop-process : goal.invariant-loop-process
invariant-loop-process l = record {
  counted : length l.known.items ≡ length (system_of l.system).processes;
  known : AreKnownBefore (system_of l.system).processes l.process-items l.known.items l.process-index;
}
