use Rattle.lotos_pattern.proofs.PlaceNumbering.{numbered}
use Rattle.lotos_pattern.proofs.place_numbering.number_of.Goals as goal

pub returns-clause-put : goal.returns-clause-put
returns-clause-put c =
    let i = c.in_ok-number.ensures in
    numbered _ c.equal_places.ensures.same c.equal_places.ensures.itself c.args.place _ _ _ i.keys i.stored
