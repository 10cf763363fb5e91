use Rattle.lotos_warn.proofs.LabelSets.{none_at_all}
use Rattle.lotos_warn.proofs.first_labels.has_none.Goals as goal

pub returns : goal.returns
returns c = none_at_all c.args.labels.now c.is_empty.result c.is_empty.ensures
