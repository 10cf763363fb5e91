-- Where the exploration of all that can be observed stops.
use Rattle.std.proofs.Common.{◌≡◌, List, [], Option, false, inl, inr, refl, subst, sym}
use Rattle.std.specs.declared.string.String.{String}
use Rattle.std.specs.declared.alloc.Global.{Global}
use Rattle.lotos_listing.specs.Order.{Before, Label}
use Rattle.lotos_automaton.specs.BoundedBehaviours.{BoundedBehaviour, IsOneSetTooMany, IsOversized, IsStop}
use Rattle.lotos_outcome.specs.Outcomes.{is_write}
use Rattle.lotos_outcome.specs.declared.outcome.Stop.{Stop}
use Rattle.lotos_outcome.specs.declared.outcome.Stop.TheVariants.{Limit, Lines, Memory, States, Terms, Write}
use Rattle.lotos_tool.specs.ExplorationParts.{IsHalt, IsHaltAt}
use Rattle.lotos_tool.specs.ExplorationStops.{IsExplorationStop}
use Rattle.lotos_tool.specs.declared.exploration.ExplorationHalt.{ExplorationHalt}

-- the halt at a sequence that reaches too many normal forms
pub oversized_halt : (q : BoundedBehaviour) (s : List Label) (h : ExplorationHalt) → IsOversized q s →
    ((r : List Label) → IsStop q r → Before r s → ⊥) → IsHaltAt Terms s h → IsHalt q h
oversized_halt q s h over first at = elim at [
  | inl memory ↦ inl memory
  | inr (cause, text) ↦ inr (subst (λ c. IsExplorationStop q c h.place []) (sym cause)
      (record { s = s; text = text; too_many = over; earliest = first; nothing = refl }))
]

-- the halt at a sequence that leads to one set too many
pub sets_halt : (q : BoundedBehaviour) (s : List Label) (h : ExplorationHalt) → IsOneSetTooMany q s →
    ((r : List Label) → IsStop q r → Before r s → ⊥) → IsHaltAt States s h → IsHalt q h
sets_halt q s h over first at = elim at [
  | inl memory ↦ inl memory
  | inr (cause, text) ↦ inr (subst (λ c. IsExplorationStop q c h.place []) (sym cause)
      (record { s = s; text = text; too_many = over; earliest = first; nothing = refl }))
]

-- an exploration does not stop because of the output
pub stops_unwritten : (q : BoundedBehaviour) (cause : Stop) (place : Option (String Global)) → IsExplorationStop q cause place [] → is_write cause ≡ false
stops_unwritten q Terms place stop = refl
stops_unwritten q States place stop = refl
stops_unwritten q Limit place stop = absurd stop
stops_unwritten q Lines place stop = absurd stop
stops_unwritten q Memory place stop = absurd stop
stops_unwritten q Write place stop = absurd stop
