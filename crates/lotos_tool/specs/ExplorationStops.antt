-- Where the exploration of all that can be observed stops.
use Rattle.std.specs.Prelude.{◌≡◌, ℕ, List, [], Option, Some, string_bytes}
use Rattle.std.specs.Option.{option_map}
use Rattle.std.specs.declared.string.String.{String}
use Rattle.std.specs.declared.alloc.Global.{Global}
use Rattle.lotos_listing.specs.Order.{Before, Label}
use Rattle.lotos_automaton.specs.BoundedBehaviours.{BoundedBehaviour, IsOneSetTooMany, IsOversized, IsStop}
use Rattle.lotos_outcome.specs.declared.outcome.Stop.{Stop}
use Rattle.lotos_outcome.specs.declared.outcome.Stop.TheVariants.{States, Terms}
use Rattle.lotos_output.specs.OutputLines.{sequence_text}

module _ (q : BoundedBehaviour) where
  -- nothing was written: the exploration stops at this sequence, whose text is that of the place, and at none before it
  pub record IsUnwrittenStopAt (IsCause : List Label → Type 0) (place : Option (String Global)) (bytes : List ℕ)
      : Type 0 where
    pub s : List Label
    pub text : option_map string_bytes place ≡ Some (sequence_text s)
    pub too_many : IsCause s
    pub earliest : (r : List Label) → IsStop q r → Before r s → ⊥
    pub nothing : bytes ≡ []

  -- the exploration stops for this cause: the sequence reaches too many normal forms, or leads to one set of them too
  -- many
  abbrev pub IsExplorationStop : Stop → Option (String Global) → List ℕ → Type 0
  IsExplorationStop Terms place bytes = IsUnwrittenStopAt (IsOversized q) place bytes
  IsExplorationStop States place bytes = IsUnwrittenStopAt (IsOneSetTooMany q) place bytes
  IsExplorationStop _ place bytes = ⊥

  -- it stops at no sequence
  abbrev pub IsNowhereStopped : Type 0
  IsNowhereStopped = (s : List Label) → IsStop q s → ⊥
