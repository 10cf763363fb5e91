-- What a label does at the start of an element's segment.
use Rattle.std.specs.Prelude.{◌≡◌, ◌↔◌, List, [], ◌∷◌}
use Rattle.lotos_pattern.specs.PatternLabels.{Label}
use Rattle.lotos_pattern.specs.Patterns.{Element, Segment}
use Rattle.lotos_pattern.specs.declared.element.Transition.{Transition}
use Rattle.lotos_pattern.specs.declared.element.Transition.TheVariants as transition

-- what the label does at the element: it is a segment, and no longer segment starts with it; after it any segment of
-- the element may follow, and nothing else; no segment starts with it
unfoldable pub IsTransition : Element → Label → Transition → Type 0
IsTransition e l transition.Advance = (s : List Label) → Segment e (l ∷ s) ↔ (s ≡ [])
IsTransition e l transition.Stay = (s : List Label) → Segment e (l ∷ s) ↔ Segment e s
IsTransition e l transition.Reject = (s : List Label) → Segment e (l ∷ s) → ⊥
