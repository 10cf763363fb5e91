use Rattle.std.proofs.Common.{◌≡◌, Some, slice_get, subst, sym}
use Rattle.lotos_terms.proofs.NamesInOrder.{found_at, never_missing}
use Rattle.lotos_compare.proofs.common_gates.gate_of.Goals as goal

pub returns-in-Ok : goal.returns-in-Ok
returns-in-Ok c =
    subst (λ k. slice_get c.args.names.now k ≡ Some c.args.name.now) (sym c.of_number.ensures)
    (found_at c.args.names.now c.requires c.args.name.now c.in-Ok.index c.in-Ok.ensures.bound c.in-Ok.ensures.ok)

pub returns-in-Err : goal.returns-in-Err
returns-in-Err c there = never_missing c.args.names.now c.requires c.args.name.now there c.in-Err.field-0 c.in-Err.ensures.position
