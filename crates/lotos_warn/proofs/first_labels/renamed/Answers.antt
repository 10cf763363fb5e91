use Rattle.std.proofs.Common.{refl}
use Rattle.lotos_warn.proofs.RenamedNames.{made_exactly}
use Rattle.lotos_warn.proofs.first_labels.renamed.Goals as goal

pub returns : goal.returns
returns c =
    let labels = c.args.labels.now in
    made_exactly labels (record { terminates = labels.terminates; internal = labels.internal; gates = c.in_ok-gates.gates })
    c.args.formals.now c.args.actuals.now refl refl c.in_ok-gates.ensures
