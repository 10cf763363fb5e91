use Rattle.lotos_pattern.proofs.Places.{bare}
use Rattle.lotos_pattern.proofs.PlaceValues.{bare_value}
use Rattle.lotos_pattern.proofs.place.Place.empty.Goals as goal

pub returns-clause-none : goal.returns-clause-none
returns-clause-none c k = bare 5 k

pub returns-clause-place_value : goal.returns-clause-place_value
returns-clause-place_value c = bare_value
