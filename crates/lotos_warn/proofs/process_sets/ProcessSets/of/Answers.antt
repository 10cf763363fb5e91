use Rattle.std.proofs.Common.{◌↔◌, ℕ, subst}
use Rattle.lotos_check.specs.NameLists.{In}
use Rattle.lotos_warn.specs.Termination.{IsExiting}
use Rattle.lotos_warn.proofs.process_sets.ProcessSets.of.Goals as goal

pub returns-clause-exiting : goal.returns-clause-exiting
returns-clause-exiting c =
    subst (λ ps. (k : ℕ) → In k c.in_ok-exiting.exiting.keys ↔ IsExiting ps k) c.processes.ensures c.in_ok-exiting.ensures
