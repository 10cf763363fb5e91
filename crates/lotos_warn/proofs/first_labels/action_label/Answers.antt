use Rattle.std.proofs.lemmas.Result.{IfOk-weaker}
use Rattle.lotos_warn.proofs.LabelSets.{internal_exactly}
use Rattle.lotos_warn.proofs.first_labels.action_label.Goals as goal

pub returns-in-None : goal.returns-in-None
returns-in-None c = rw c.in-None.is (internal_exactly c.without_gates.result c.without_gates.ensures)

pub returns-in-Some : goal.returns-in-Some
returns-in-Some c = rw c.in-Some.is (IfOk-weaker c.gate_label.result _ _ (λ r h. h) c.gate_label.ensures)
