use Rattle.std.proofs.Common.{take}
use Rattle.lotos_store.specs.Interning.{plain_lists}
use Rattle.lotos_suite.specs.GatheredLabels.{AddsTransitions}
use Rattle.lotos_suite.proofs.suite_alphabet.append_labels.Given as goal

abbrev pub invariant-loop-transitions : goal.invariant-loop-transitions
invariant-loop-transitions l = AddsTransitions (take l.transitions-index (plain_lists l.graph)) l.fn.labels.items l.labels.items
