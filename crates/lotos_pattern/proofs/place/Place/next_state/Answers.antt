use Rattle.lotos_pattern.proofs.Places.{none_at_all, none_below}
use Rattle.lotos_pattern.proofs.place.Place.next_state.Goals as goal

pub returns-then-end-number : goal.returns-then-end-number
returns-then-end-number c = none_below _ _ _ c.first_state_in_word.result c.if-end-number.true c.first_state_in_word.ensures

pub returns : goal.returns
returns c = none_at_all _ _ _ c.first_state_from.result c.first_state_from.ensures
