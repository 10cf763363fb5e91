use Rattle.lotos_pattern.proofs.PlaceValues.{one_place}
use Rattle.lotos_pattern.proofs.laws.one_place.Goals as goal

pub returns : goal.returns
returns c = one_place
