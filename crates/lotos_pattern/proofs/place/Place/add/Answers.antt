use Rattle.std.proofs.Common.{arith, rules}
use Rattle.lotos_pattern.proofs.Places.{added}
use Rattle.lotos_pattern.proofs.PlaceValues.{added_value}
use Rattle.lotos_pattern.proofs.place.Place.add.Goals as goal

pub returns-clause-states : goal.returns-clause-states
returns-clause-states c k = simp (← c.self.view_is) (added c.self.inside.bits c.args.state (omega arith) k)

pub returns-clause-place_value : goal.returns-clause-place_value
returns-clause-place_value c = added_value c.self.inside.bits c.args.state (omega arith) (λ i within. search rules) (omega arith)
