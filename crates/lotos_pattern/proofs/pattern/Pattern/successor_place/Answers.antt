use Rattle.std.proofs.Common.{ap, ◌∙◌, arith, subst}
use Rattle.std.specs.Prelude.{All}
use Rattle.lotos_pattern.specs.ElementView.{CanOccur, elements_of}
use Rattle.lotos_pattern.proofs.Ends.{all_at, as_long, element_at, elements_at}
use Rattle.lotos_pattern.proofs.NfaTransitions.{walk_begins, walk_ends, walked}
use Rattle.lotos_pattern.proofs.PlaceTransitions.{passed, passing_begins, passing_ends}
use Rattle.lotos_pattern.proofs.pattern.Pattern.successor_place.Goals as goal

pub loop-state-init : goal.loop-state-init
loop-state-init c =
    let shown = ap elements_of c.as_slice-elements.ensures.value ∙ ap (λ p. p.elements) c.self.view_is in
    let long = as_long _ _ shown in (
      rw c.unwrap_or-state.ensures (passing_begins c.args.self.now.elements _ _ _ c.first_state_from.result _ (omega arith) c.empty-next.ensures.none
          c.first_state_from.ensures),
      rw c.unwrap_or-state.ensures (walk_begins c.args.self.now.elements _ _ _ c.first_state_from.result _ (omega arith) c.empty-next.ensures.none
          c.first_state_from.ensures),
      c.empty-next.ensures.place_value,
    )

pub loop-state-preserved : goal.loop-state-preserved
loop-state-preserved c =
    let p = c.args.self.now.elements in
    let kept = c.as_slice-elements.result.now in
    let shown = ap elements_of c.as_slice-elements.ensures.value ∙ ap (λ p. p.elements) c.self.view_is in
    let long = as_long p kept shown in
    let occur = subst (λ q. All (CanOccur q.strong) q.elements) c.self.view_is c.self.invariant.observable in
    let here = elements_at p kept c.loop-state.state c.index-elements-state.result shown (omega arith) c.index-elements-state.is in
    let element = element_at p kept c.loop-state.state c.index-elements-state.result shown (omega arith) c.index-elements-state.is in (
      passed p c.args.place.now c.args.label.now c.loop-state.state _ here c.transition_on.result _ _ _ _ (omega arith) (omega arith) c.loop-state.invariant.0
          c.transition_on.ensures
          c.apply_transition.ensures.states c.skip_empty_elements-state.ensures,
      walked c.args.self.now.strong p c.args.place.now c.args.label.now c.loop-state.state _ element
          (all_at (CanOccur c.args.self.now.strong) p c.loop-state.state _ occur element) c.transition_on.result _ _ _ _ (omega arith) (omega arith)
          c.loop-state.invariant.1 c.transition_on.ensures
          c.apply_transition.ensures.states c.skip_empty_elements-state.ensures,
      c.apply_transition.ensures.place_value c.loop-state.invariant.2,
    )

pub loop-state-smaller : goal.loop-state-smaller
loop-state-smaller c =
    let shown = ap elements_of c.as_slice-elements.ensures.value ∙ ap (λ p. p.elements) c.self.view_is in
    let long = as_long _ _ shown in
    let onward = c.skip_empty_elements-state.ensures.onward in
    omega arith

pub returns-clause-follows : goal.returns-clause-follows
returns-clause-follows c =
    let shown = ap elements_of c.as_slice-elements.ensures.value ∙ ap (λ p. p.elements) c.self.view_is in
    let long = as_long _ _ shown in
    passing_ends _ _ _ c.loop-state.state _ (omega arith) c.loop-state.invariant.0

pub returns-clause-states : goal.returns-clause-states
returns-clause-states c =
    let shown = ap elements_of c.as_slice-elements.ensures.value ∙ ap (λ p. p.elements) c.self.view_is in
    let long = as_long _ _ shown in
    walk_ends _ _ _ c.loop-state.state _ (omega arith) c.loop-state.invariant.1
