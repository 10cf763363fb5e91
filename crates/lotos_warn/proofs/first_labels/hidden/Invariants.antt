use Rattle.std.proofs.Common.{◌↔◌, drop}
use Rattle.lotos_warn.specs.FirstLabels.{First}
use Rattle.lotos_warn.specs.LabelSets.{Has, IsHidden}
use Rattle.lotos_warn.proofs.first_labels.hidden.Given as goal

abbrev pub invariant-loop-gate : goal.invariant-loop-gate
invariant-loop-gate l = (x : First) → IsHidden (drop l.gate-index l.gates) (Has l.labels) x ↔ IsHidden l.gates (Has l.fn.inside) x
