-- Lists of names that are no gates, and the words that they are in.
use Rattle.std.proofs.Common.{◌≡◌, ◌∙◌, ℕ, ◌<◌, ◌≤◌, ◌+◌, List, [], ◌∷◌, Some, length, arith, get_or, inl, inr, refl, subst, sym}
use Rattle.std.specs.Prelude.{slice_get}
use Rattle.std.proofs.lemmas.Bool.{cases_order}
use Rattle.std.proofs.lemmas.Option.{slice_get_within}
use Rattle.lotos_check.specs.NameLists.{Name}
use Rattle.lotos_check.proofs.ListIndices.{get_in, in_get, one_item}
use Rattle.lotos_outcome.specs.UnknownGates.{HasNoUnknownGateBefore, HasUnknownGate, IsFirstUnknownGate, IsUnknownGate, NamesUnknownGate}
use Rattle.lotos_outcome.specs.UnknownNames.{AddsFirst, AddsUnknown, BeginWithFirst}
use Rattle.lotos_outcome.specs.declared.unknown_name.UnknownName.{UnknownName}
use Rattle.lotos_outcome.proofs.UnknownGates.{first_unknown, known_all, known_more}

-- a list to which nothing is added
pub adds_nothing : {Has : Type 0} → (Has → ⊥) → (number : ℕ) (names : List UnknownName) → AddsUnknown Has number names names
adds_nothing none number [] = none
adds_nothing none number (first ∷ rest) = refl

-- the same is added for an equal reason
pub adds_alike : {Has More : Type 0} → (Has → More) → (More → Has) → (number : ℕ) (old new : List UnknownName) → AddsUnknown Has number old new →
    AddsUnknown More number old new
adds_alike there back number [] [] none = λ more. none (back more)
adds_alike there back number [] (begun ∷ more) adds = (adds.0, there adds.1)
adds_alike there back number (first ∷ rest) [] adds = adds
adds_alike there back number (first ∷ rest) (begun ∷ more) adds = adds

-- a name is added after others
pub adds_more : (Has : Type 0) {More : Type 0} → More → (number : ℕ) (old mid new : List UnknownName) → AddsUnknown Has number old mid →
    AddsFirst number mid new → AddsUnknown More number old new
adds_more Has holds number old mid [] adds first = absurd first
adds_more Has holds number [] [] (begun ∷ more) adds first = (first, holds)
adds_more Has holds number [] (middle ∷ rest) (begun ∷ more) adds first = (first ∙ adds.0, holds)
adds_more Has holds number (before ∷ rest) [] (begun ∷ more) adds first = absurd adds
adds_more Has holds number (before ∷ rest) (middle ∷ others) (begun ∷ more) adds first = first ∙ adds

-- one of the names before the index is that of a gate other than these
abbrev pub HasUnknownBefore : ℕ → List Name → List (List ℕ) → Type 0
HasUnknownBefore n gates names = (k : ℕ) × (name : List ℕ) × (k < n) × (slice_get names k ≡ Some name) × IsUnknownGate gates name

-- before the first there is none
pub none_before : (gates : List Name) (names : List (List ℕ)) → HasUnknownBefore 0 gates names → ⊥
none_before gates names (k, name, less, at, unknown) = omega arith

-- one more name, which is known
pub known_name : (gates : List Name) (names : List (List ℕ)) (n : ℕ) (name : List ℕ) → slice_get names n ≡ Some name → (IsUnknownGate gates name → ⊥) →
    HasUnknownBefore (n + 1) gates names → HasUnknownBefore n gates names
known_name gates names n name at known (k, other, less, there, unknown) = elim (cases_order k n) [
  | inl same ↦ absurd (
      let one : other ≡ name = one_item names n other name (subst (λ j. slice_get names j ≡ Some other) same there) at in
      known (subst (IsUnknownGate gates) one unknown)
      )
  | inr (inl below) ↦ (k, other, below, there, unknown)
  | inr (inr above) ↦ absurd (omega arith)
]

-- what was there before is there after one more name
pub still_unknown : (gates : List Name) (names : List (List ℕ)) (n : ℕ) → HasUnknownBefore n gates names → HasUnknownBefore (n + 1) gates names
still_unknown gates names n (k, name, less, at, unknown) = (k, name, omega arith, at, unknown)

-- in the end they are those of all names
pub unknown_in : (gates : List Name) (names : List (List ℕ)) (n : ℕ) → HasUnknownBefore n gates names → HasUnknownGate gates names
unknown_in gates names n (k, name, less, at, unknown) = (name, get_in names k name at, unknown)

-- and the other way round
pub unknown_before : (gates : List Name) (names : List (List ℕ)) (n : ℕ) → length names ≤ n → HasUnknownGate gates names →
    HasUnknownBefore n gates names
unknown_before gates names n all (name, i, unknown) =
    let at = in_get names name i in
    let below = slice_get_within names at.0 name at.1 in
    (at.0, name, omega arith, at.1, unknown)

-- the names in the words before the one with this index are in the list, as far as its first name tells
abbrev pub BeginBefore : ℕ → List Name → List (List ℕ) → List UnknownName → Type 0
BeginBefore n gates words [] = HasNoUnknownGateBefore n gates words
BeginBefore n gates words (first ∷ rest) = IsFirstUnknownGate gates words first.word

-- so are those of one more word
pub begin_more : (gates : List Name) (words : List (List ℕ)) (n : ℕ) (word : List ℕ) → slice_get words n ≡ Some word →
    (old new : List UnknownName) → AddsUnknown (NamesUnknownGate gates word) (n + 1) old new → BeginBefore n gates words old →
    BeginBefore (n + 1) gates words new
begin_more gates words n word at [] [] adds before = known_more gates words n word at adds before
begin_more gates words n word at [] (begun ∷ more) adds before =
    subst (IsFirstUnknownGate gates words) (sym adds.0) (first_unknown gates words n word at adds.1 before)
begin_more gates words n word at (first ∷ rest) [] adds before = absurd adds
begin_more gates words n word at (first ∷ rest) (begun ∷ more) adds before = subst (IsFirstUnknownGate gates words) (sym adds) before

-- in the end those of all words
pub begin_all : (gates : List Name) (words : List (List ℕ)) (n : ℕ) → length words ≤ n → (names : List UnknownName) →
    BeginBefore n gates words names → BeginWithFirst gates words names
begin_all gates words n all [] before = known_all gates words n all before
begin_all gates words n all (first ∷ rest) before = before

-- the first name of such a list is in the first word that names an unknown gate
pub begin_first : (gates : List Name) (words : List (List ℕ)) (names : List UnknownName) (first : UnknownName) → BeginWithFirst gates words names →
    0 < length names → first ≡ get_or names 0 first → IsFirstUnknownGate gates words first.word
begin_first gates words [] first begins some is = absurd (omega arith)
begin_first gates words (begun ∷ more) first begins some is = subst (λ (name : UnknownName). IsFirstUnknownGate gates words name.word) (sym is) begins
