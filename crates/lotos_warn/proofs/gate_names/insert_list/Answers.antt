use Rattle.std.proofs.lemmas.Result.{on_ok_weaker}
use Rattle.lotos_warn.proofs.gate_names.insert_list.Goals as goal

pub returns-in-Gates : goal.returns-in-Gates
returns-in-Gates c = rw c.in-Gates.is (rw c.as_slice.ensures.value at (on_ok_weaker c.insert_names.result (λ h. h) c.insert_names.ensures))
