use Rattle.std.proofs.Common.{◌||◌, refl, false}
use Rattle.lotos_warn.proofs.LabelSets.{enabled_exactly}
use Rattle.lotos_warn.proofs.first_labels.enabled.Goals as goal

pub returns : goal.returns
returns c =
    let left = c.args.left in
    enabled_exactly left (record { terminates = false; internal = left.internal || left.terminates; gates = left.gates }) refl refl refl
