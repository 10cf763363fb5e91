use Rattle.std.proofs.Common.{◌≡◌, ◌+◌, ◌-◌, [], arith, drop, length, refl, subst}
use Rattle.lotos_pattern.specs.Patterns.{IsJoin, Segment}
use Rattle.lotos_pattern.specs.ElementView.{elements_of}
use Rattle.lotos_pattern.proofs.Ends.{as_long, elements_at}
use Rattle.lotos_pattern.proofs.AcceptingPlaces.{empty_too, last_needed, none_left, none_needed}
use Rattle.lotos_pattern.proofs.element.min_accepting_state.Goals as goal

pub loop-index-init : goal.loop-index-init
loop-index-init c =
    let p = elements_of c.args.elements.now in
    none_left p (length c.args.elements.now) (let long = as_long p c.args.elements.now refl in omega arith)

pub loop-index-preserved : goal.loop-index-preserved
loop-index-preserved c =
    let p = elements_of c.args.elements.now in
    let i = c.loop-index.index - 1 in
    let here = elements_at p c.args.elements.now i _ refl (omega arith) c.index-elements-index.is in
    let step : c.loop-index.index ≡ i + 1 = omega arith in
    empty_too p i _ here (subst (λ j. IsJoin Segment (drop j p) []) step c.loop-index.invariant) c.if-not-may_be_empty.ensures

pub returns : goal.returns
returns c k =
    let p = elements_of c.args.elements.now in
    let first : c.loop-index.index ≡ 0 = omega arith in
    none_needed p k (subst (λ j. IsJoin Segment (drop j p) []) first c.loop-index.invariant)

pub returns-then-not-may_be_empty : goal.returns-then-not-may_be_empty
returns-then-not-may_be_empty c =
    let p = elements_of c.args.elements.now in
    let i = c.loop-index.index - 1 in
    let here = elements_at p c.args.elements.now i _ refl (omega arith) c.index-elements-index.is in
    let step : c.loop-index.index ≡ i + 1 = omega arith in
    last_needed p i _ here (subst (λ j. IsJoin Segment (drop j p) []) step c.loop-index.invariant) c.if-not-may_be_empty.ensures
