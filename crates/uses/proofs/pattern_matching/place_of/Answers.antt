use Rattle.std.proofs.Common.{◌+◌, subst}
use Rattle.lotos_pattern.specs.Spelling.{texts_of}
use Rattle.lotos_pattern.specs.Places.{IsPlaceOf}
use Rattle.lotos_pattern.specs.Patterns.{Viable}
use Rattle.uses.proofs.PatternPlaces.{front_more, front_not_viable}
use Rattle.uses.proofs.pattern_matching.place_of.Goals as goal

pub returns-in_err-place : goal.returns-in_err-place
returns-in_err-place c =
    let s = c.args.sequence.now in
    let i = c.loop-label.label-index in
    rw c.from_residual.ensures (front_not_viable c.args.pattern.now (texts_of s) (i + 1)
    (subst (λ r. Viable c.args.pattern.now r → ⊥) (front_more s i _ c.loop-label-test.true) (c.in_err-place.ensures.goes_on _ c.loop-label.invariant)))

pub loop-label-preserved : goal.loop-label-preserved
loop-label-preserved c =
    let s = c.args.sequence.now in
    let i = c.loop-label.label-index in
    subst (λ r. IsPlaceOf c.args.pattern.now r c.in_ok-place.place) (front_more s i _ c.loop-label-test.true)
    (c.in_ok-place.ensures.goes_on _ c.loop-label.invariant).1
