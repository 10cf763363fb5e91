use Rattle.std.proofs.Common.{subst}
use Rattle.std.specs.Prelude.{All}
use Rattle.lotos_pattern.specs.Patterns.{IsObservable}
use Rattle.lotos_pattern.specs.ElementView.{CanOccur}
use Rattle.lotos_pattern.proofs.NfaTransitions.{states_step}
use Rattle.lotos_pattern.proofs.PlacesOfPrefixes.{goes_on, stuck, unseen}
use Rattle.lotos_pattern.proofs.pattern.Pattern.step.Goals as goal

pub returns-then-is_unobservable-clause-goes_on : goal.returns-then-is_unobservable-clause-goes_on
returns-then-is_unobservable-clause-goes_on c r stands =
    unseen c.args.self.now r c.args.label.now (subst (λ p. IsObservable p.strong c.args.label.now → ⊥) c.self.view_is c.if-is_unobservable.ensures)

pub returns-then-is_empty-clause-goes_on : goal.returns-then-is_empty-clause-goes_on
returns-then-is_empty-clause-goes_on c r stands =
    stuck c.args.self.now r c.args.label.now c.args.place c.successor_place-next.result c.successor_place-next.ensures.follows c.if-is_empty.ensures stands

pub returns-else-is_empty-clause-goes_on : goal.returns-else-is_empty-clause-goes_on
returns-else-is_empty-clause-goes_on c r stands =
    let occur = subst (λ p. All (CanOccur p.strong) p.elements) c.self.view_is c.self.invariant.observable in
    let seen = subst (λ p. IsObservable p.strong c.args.label.now) c.self.view_is c.if-is_unobservable.ensures in
    goes_on c.args.self.now r c.args.label.now c.args.place c.successor_place-next.result occur seen c.successor_place-next.ensures.follows
    c.if-is_empty.ensures stands

pub returns-else-is_empty-clause-states : goal.returns-else-is_empty-clause-states
returns-else-is_empty-clause-states c r stands = states_step c.args.self.now r c.args.label.now c.args.place c.successor_place-next.result stands
    c.successor_place-next.ensures.states
