use Rattle.lotos_pattern.proofs.PlaceTransitions.{reached_next, reached_over}
use Rattle.lotos_pattern.proofs.pattern.skip_empty_elements.Goals as goal

pub returns-then-may_be_empty : goal.returns-then-may_be_empty
returns-then-may_be_empty c = reached_over _ _ _ _ c.if-may_be_empty.ensures

pub returns-else-may_be_empty : goal.returns-else-may_be_empty
returns-else-may_be_empty c = rw c.unwrap_or.ensures (reached_next _ _ _ _ c.next_state.result c.requires c.if-may_be_empty.ensures c.next_state.ensures)
