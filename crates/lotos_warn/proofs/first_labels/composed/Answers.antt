use Rattle.std.proofs.Common.{◌&&◌, ◌||◌, refl}
use Rattle.std.specs.Option.{option_map}
use Rattle.lotos_warn.proofs.LabelSets.{composed_exactly}
use Rattle.lotos_warn.proofs.first_labels.composed.Goals as goal

pub returns : goal.returns
returns c =
    let left = c.args.left in
    let right = c.args.right in
    composed_exactly (option_map (λ v. v.items) c.args.sync.now) left right
    (record { terminates = left.terminates && right.terminates; internal = left.internal || right.internal; gates = c.in_ok-gates.gates })
    refl refl c.in_ok-gates.ensures
