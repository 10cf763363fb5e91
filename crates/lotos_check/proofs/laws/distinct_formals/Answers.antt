use Rattle.lotos_check.proofs.DuplicateNames.{formals_distinct, process_distinct}
use Rattle.lotos_check.proofs.laws.distinct_formals.Goals as goal

pub returns : goal.returns
returns c = record { specification = formals_distinct; processes = process_distinct }
