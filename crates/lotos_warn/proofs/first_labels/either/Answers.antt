use Rattle.std.proofs.Common.{◌||◌, refl}
use Rattle.lotos_warn.proofs.LabelSets.{either_exactly}
use Rattle.lotos_warn.proofs.first_labels.either.Goals as goal

pub returns : goal.returns
returns c =
    let left = c.args.left in
    let right = c.args.right in
    either_exactly left right
    (record { terminates = left.terminates || right.terminates; internal = left.internal || right.internal; gates = c.merge.new.into })
    refl refl c.in_ok-merge.ensures
