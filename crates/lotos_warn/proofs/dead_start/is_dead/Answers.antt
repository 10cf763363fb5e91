use Rattle.lotos_check.specs.CheckedView.{system_of}
use Rattle.lotos_warn.proofs.DeadStarts.{dead_by_labels}
use Rattle.lotos_warn.proofs.dead_start.is_dead.Goals as goal

pub returns : goal.returns
returns c =
    dead_by_labels (system_of c.args.system.now) c.in_ok-known.known.items c.in_ok-known.ensures c.in_ok-labels.labels
    (rw c.start-start.ensures.start at (rw c.processes.ensures at (rw c.as_slice.ensures.value at c.in_ok-labels.ensures)))
    c.has_none.result c.has_none.ensures
