use Rattle.lotos_explain.proofs.FunctionalityCauses.{par_never, par_other}
use Rattle.lotos_explain.proofs.functionality_causes.both_cause.Goals as goal

pub returns-in-Exit : goal.returns-in-Exit
returns-in-Exit c = λ scope l r s h k.
    par_other scope l r c.in_ok-left.left c.in_ok-right.right (rw c.in_ok-left.was at h) (rw c.in_ok-right.was at k) s c.in-Exit.is

pub returns-in-NoExit : goal.returns-in-NoExit
returns-in-NoExit c = λ scope l r s h k.
    par_never scope l r c.in_ok-left.left c.in_ok-right.right (rw c.in_ok-left.was at h) (rw c.in_ok-right.was at k) s c.in-NoExit.is
