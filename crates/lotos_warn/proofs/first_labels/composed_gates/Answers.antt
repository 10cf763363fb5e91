use Rattle.std.proofs.lemmas.Result.{IfOk-weaker}
use Rattle.lotos_warn.proofs.first_labels.composed_gates.Goals as goal

pub returns-in-None : goal.returns-in-None
returns-in-None c = rw c.in-None.is (IfOk-weaker c.common_names.result _ _ (λ r h. h) c.common_names.ensures)

pub returns : goal.returns
returns c = rw c.in-Some.is (rw c.as_slice.ensures.value at (IfOk-weaker c.joint_names.result _ _ (λ r h. h) c.joint_names.ensures))
