use Rattle.lotos_explain.proofs.FunctionalityCauses.{choice_exits, choice_other, disable_exits, disable_other}
use Rattle.lotos_explain.proofs.functionality_causes.either_cause.Goals as goal

pub returns-in-Exit-clause-of_choice : goal.returns-in-Exit-clause-of_choice
returns-in-Exit-clause-of_choice c = λ scope l r h k.
    choice_exits scope l r c.in_ok-left.left c.in_ok-right.right (rw c.in_ok-left.was at h) (rw c.in_ok-right.was at k) c.in-Exit.is

pub returns-in-Exit-clause-of_disable : goal.returns-in-Exit-clause-of_disable
returns-in-Exit-clause-of_disable c = λ scope l r h k.
    disable_exits scope l r c.in_ok-left.left c.in_ok-right.right (rw c.in_ok-left.was at h) (rw c.in_ok-right.was at k) c.in-Exit.is

pub returns-in-NoExit-clause-of_choice : goal.returns-in-NoExit-clause-of_choice
returns-in-NoExit-clause-of_choice c = λ scope l r h k.
    choice_other scope l r c.in_ok-left.left c.in_ok-right.right (rw c.in_ok-left.was at h) (rw c.in_ok-right.was at k) c.in-NoExit.is

pub returns-in-NoExit-clause-of_disable : goal.returns-in-NoExit-clause-of_disable
returns-in-NoExit-clause-of_disable c = λ scope l r h k.
    disable_other scope l r c.in_ok-left.left c.in_ok-right.right (rw c.in_ok-left.was at h) (rw c.in_ok-right.was at k) c.in-NoExit.is
