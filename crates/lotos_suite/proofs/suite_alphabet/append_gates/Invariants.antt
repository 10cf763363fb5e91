use Rattle.std.proofs.Common.{take}
use Rattle.lotos_suite.specs.GatheredLabels.{AddsGates}
use Rattle.lotos_suite.proofs.suite_alphabet.append_gates.Given as goal

abbrev pub invariant-loop-name : goal.invariant-loop-name
invariant-loop-name l = AddsGates l.gates (take l.name-index l.own) l.fn.labels.items l.labels.items
