use Rattle.lotos_pattern.proofs.Segments.{one_fails, one_passes, refuses_fails, until_passes, until_refuses_stays, until_stays, while_fails, while_stays}
use Rattle.lotos_pattern.proofs.element.Element.transition_on.Goals as goal

pub returns-then-contains : goal.returns-then-contains
returns-then-contains c = rw c.in-One.is (one_passes _ _ c.if-contains.ensures)

pub returns-else-contains : goal.returns-else-contains
returns-else-contains c = rw c.in-One.is (one_fails _ _ c.if-contains.ensures)

pub returns-then-contains-2 : goal.returns-then-contains-2
returns-then-contains-2 c = rw c.in-Until.is (until_passes _ _ c.if-contains-2.ensures)

pub returns-else-contains-2 : goal.returns-else-contains-2
returns-else-contains-2 c = rw c.in-Until.is (until_stays _ _ c.if-contains-2.ensures)

pub returns-then-contains-3 : goal.returns-then-contains-3
returns-then-contains-3 c = rw c.in-While.is (while_stays _ _ c.if-contains-3.ensures)

pub returns-else-contains-3 : goal.returns-else-contains-3
returns-else-contains-3 c = rw c.in-While.is (while_fails _ _ c.if-contains-3.ensures)

pub returns-in-Refuses : goal.returns-in-Refuses
returns-in-Refuses c = rw c.in-Refuses.is (refuses_fails _ _)

pub returns-in-UntilRefuses : goal.returns-in-UntilRefuses
returns-in-UntilRefuses c = rw c.in-UntilRefuses.is (until_refuses_stays _ _)
