use Rattle.lotos_compare.proofs.ExcludedStops.{stop_excluded}
use Rattle.lotos_compare.proofs.laws.line_and_stop_exclude_each_other.Goals as goal

pub returns : goal.returns
returns c = stop_excluded
