use Rattle.std.proofs.Common.{ap, subst, ◌∙◌, ℕ, ◌≤◌, List, [], drop}
use Rattle.std.specs.Prelude.{◌↔◌}
use Rattle.lotos_pattern.specs.Patterns.{Element, IsJoin, Segment}
use Rattle.lotos_pattern.specs.ElementView.{elements_of}
use Rattle.lotos_pattern.proofs.AcceptingPlaces.{ending}
use Rattle.lotos_pattern.proofs.pattern.Pattern.is_accepting.Goals as goal

pub returns : goal.returns
returns c =
    let shown = ap elements_of c.as_slice.ensures.value ∙ ap (λ p. p.elements) c.self.view_is in
    let done = subst (λ (p : List Element). (k : ℕ) → IsJoin Segment (drop k p) [] ↔ (c.min_accepting_state.result ≤ k)) shown c.min_accepting_state.ensures in
    ending c.args.self.now.elements c.args.place.now c.min_accepting_state.result c.has_state_from.result done c.has_state_from.ensures
