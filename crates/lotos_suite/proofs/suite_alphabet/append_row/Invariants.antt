use Rattle.std.proofs.Common.{take}
use Rattle.lotos_suite.specs.GatheredLabels.{AddsRow}
use Rattle.lotos_suite.proofs.suite_alphabet.append_row.Given as goal

abbrev pub invariant-loop-transition : goal.invariant-loop-transition
invariant-loop-transition l = AddsRow (take l.transition-index l.transitions) l.fn.labels.items l.labels.items
