-- NFA states, and what may follow at a place.
use Rattle.std.specs.Prelude.{◌≡◌, ℕ, ◌/◌, ◌%◌, ◌^◌, ◌<◌, ◌≤◌, List, All, length, slice_index, drop}
use Rattle.std.specs.Int.{bit_at}
use Rattle.lotos_pattern.specs.PatternLabels.{Label}
use Rattle.lotos_pattern.specs.Patterns.{Matches, Pattern}

-- a place: a bit for each state, in words of 64 bits
pub record Place : Type 0 where
  pub bits : List ℕ

-- the place is one that the program has: five words of 64 bits
pub record IsPlaceValue (place : Place) : Type 0 where
  pub count : length place.bits ≡ 5
  pub bounded : All (λ word. word < 2 ^ 64) place.bits

-- the state is in the place: `k` elements are done
abbrev pub HasState : Place → ℕ → Type 0
HasState place k = bit_at (slice_index place.bits (k / 64)) (k % 64) ≡ 1

-- the first state of the place from `from` on
pub record IsFirstState (place : Place) (from k : ℕ) : Type 0 where
  pub at_least : from ≤ k
  pub has : HasState place k
  pub none_before : (j : ℕ) → from ≤ j → j < k → HasState place j → ⊥

-- the pattern without its first `k` elements, which are done
abbrev pub remaining_elements : Pattern → ℕ → Pattern
remaining_elements p k = record { elements = drop k p.elements; strong = p.strong }

-- what may still follow at a place: at some state of the place, the remaining elements match it
pub record CanFollow (p : Pattern) (place : Place) (s : List Label) : Type 0 where
  pub state : ℕ
  pub has : HasState place state
  pub matched : Matches (remaining_elements p state) s
