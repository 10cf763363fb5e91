use Rattle.std.proofs.Common.{refl}
use Rattle.lotos_warn.proofs.LabelSets.{bare_exactly}
use Rattle.lotos_warn.proofs.first_labels.without_gates.Goals as goal

pub returns : goal.returns
returns c =
    bare_exactly (record { terminates = c.args.terminates; internal = c.args.internal; gates = c.new.result }) c.args.terminates c.args.internal
    refl refl c.new.ensures.empty
