use Rattle.std.proofs.Common.{arith, rules}
use Rattle.lotos_pattern.proofs.Places.{first_here, no_more}
use Rattle.lotos_pattern.proofs.place.Place.first_state_in_word.Goals as goal

pub returns : goal.returns
returns c = simp (← c.self.view_is) (first_here (record { bits = c.self.inside.bits }) c.args.state (search rules) (omega arith))

pub returns-then-rest-eq0 : goal.returns-then-rest-eq0
returns-then-rest-eq0 c = simp (← c.self.view_is) (no_more (record { bits = c.self.inside.bits }) c.args.state c.if-rest-eq0.true)
