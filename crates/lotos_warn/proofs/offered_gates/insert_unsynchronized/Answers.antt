use Rattle.std.proofs.Common.{map}
use Rattle.std.proofs.lemmas.Result.{on_ok_weaker}
use Rattle.lotos_text.specs.AstView.{all}
use Rattle.lotos_check.specs.NameLists.{In}
use Rattle.lotos_warn.specs.Warnings.{SynchronizesOn}
use Rattle.lotos_warn.proofs.Additions.{adds_nothing}
use Rattle.lotos_warn.proofs.offered_gates.insert_unsynchronized.Goals as goal

pub returns-in-All : goal.returns-in-All
returns-in-All c = rw c.in-All.is (adds_nothing (map (λ k. k.now) c.args.into.now.keys)
    (λ n. (SynchronizesOn all n → ⊥) × In n (map (λ k. k.now) c.args.from.keys)) (λ n h. h.0 tt))

pub returns-in-Gates : goal.returns-in-Gates
returns-in-Gates c = rw c.in-Gates.is (rw c.as_slice.ensures.value at (on_ok_weaker c.insert_unlisted.result (λ h. h) c.insert_unlisted.ensures))
