use Rattle.std.proofs.lemmas.Result.{on_ok_weaker}
use Rattle.lotos_warn.proofs.gate_names.insert_action.Goals as goal

pub returns-in-Gate : goal.returns-in-Gate
returns-in-Gate c = rw c.in-Gate.is (on_ok_weaker c.insert_name.result (λ h. h) c.insert_name.ensures)
