use Rattle.std.proofs.Common.{◌||◌, refl}
use Rattle.lotos_warn.proofs.LabelSets.{hides_exactly}
use Rattle.lotos_warn.proofs.first_labels.hide_gate.Goals as goal

pub returns : goal.returns
returns c =
    let old = c.args.labels.now in
    let there = c.remove_name-was_there.result in
    hides_exactly old (record { terminates = old.terminates; internal = old.internal || there; gates = c.remove_name-was_there.new.from }) c.args.gate.now there
    refl refl c.remove_name-was_there.ensures.removes c.remove_name-was_there.ensures.there
