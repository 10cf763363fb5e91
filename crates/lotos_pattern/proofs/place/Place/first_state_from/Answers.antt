use Rattle.std.proofs.Common.{ap, ◌∙◌, arith, length}
use Rattle.lotos_pattern.proofs.Places.{none_past}
use Rattle.lotos_pattern.proofs.place.Place.first_state_from.Goals as goal

pub returns : goal.returns
returns c =
    let long = ap length c.as_slice-bits.ensures ∙ ap (λ p. length p.bits) c.self.view_is in
    none_past c.args.self.now c.args.state c.loop-later.later (omega arith) c.loop-later.invariant
