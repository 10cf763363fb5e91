use Rattle.std.proofs.lemmas.Result.{on_ok_weaker}
use Rattle.lotos_warn.proofs.offered_gates.warn_of_list.Goals as goal

pub returns-in-Gates : goal.returns-in-Gates
returns-in-Gates c = rw c.in-Gates.is (rw c.as_slice.ensures.value at (on_ok_weaker c.warn_of_unoffered.result (λ h. h) c.warn_of_unoffered.ensures))
