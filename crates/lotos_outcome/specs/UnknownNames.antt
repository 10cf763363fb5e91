-- The names in words that are no gates, as a list.
use Rattle.std.specs.Prelude.{◌≡◌, ℕ, List, [], ◌∷◌}
use Rattle.lotos_check.specs.NameLists.{Name}
use Rattle.lotos_outcome.specs.UnknownGates.{HasNoUnknownGate, IsFirstUnknownGate}
use Rattle.lotos_outcome.specs.declared.unknown_name.UnknownName.{UnknownName}

-- the list begins with a name in the first word that names a gate other than these; it is empty if no word does
abbrev pub BeginWithFirst : List Name → List (List ℕ) → List UnknownName → Type 0
BeginWithFirst gates words [] = HasNoUnknownGate gates words
BeginWithFirst gates words (first ∷ rest) = IsFirstUnknownGate gates words first.word

-- the second list begins with a name in the same word as the first list; if the first list is empty, it begins with a
-- name in the word with this number
abbrev pub AddsFirst : ℕ → List UnknownName → List UnknownName → Type 0
AddsFirst number old [] = ⊥
AddsFirst number [] (begun ∷ more) = begun.word ≡ number
AddsFirst number (first ∷ rest) (begun ∷ more) = begun.word ≡ first.word

-- the same, if such names are added at all where `Some` is false: then an empty list stays empty
abbrev pub AddsUnknown : (Some : Type 0) → ℕ → List UnknownName → List UnknownName → Type 0
AddsUnknown Some number [] [] = Some → ⊥
AddsUnknown Some number [] (begun ∷ more) = (begun.word ≡ number) × Some
AddsUnknown Some number (first ∷ rest) [] = ⊥
AddsUnknown Some number (first ∷ rest) (begun ∷ more) = begun.word ≡ first.word
