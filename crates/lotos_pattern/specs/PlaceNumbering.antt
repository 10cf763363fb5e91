-- Numbering: a place and its number in a list of places.
use Rattle.std.specs.Prelude.{◌≡◌, ℕ, List, [], ◌∷◌, ◌++◌, Some, length, slice_get}
use Rattle.lotos_pattern.specs.NfaStates.{Place}

-- the place was there with this number, or is new and now the last
pub data IsNumbered (old : List Place) : List Place → Place → ℕ → Type 0 where
  present : {place : Place} {n : ℕ} → slice_get old n ≡ Some place → IsNumbered old old place n
  added : {place : Place} → ((n : ℕ) → slice_get old n ≡ Some place → ⊥) →
      IsNumbered old (old ++ place ∷ []) place (length old)
