-- Words of a pattern that name gates not in a list, which is that of the system that is asked.
use Rattle.std.specs.Prelude.{◌≡◌, ℕ, ◌<◌, List, Some, map, slice_get}
use Rattle.std.specs.Char.{to_ascii_uppercase}
use Rattle.lotos_check.specs.NameLists.{In, Name}
use Rattle.lotos_pattern.specs.PatternLabels.{internal, termination}
use Rattle.lotos_pattern.specs.PatternFaults.{HasWord}
use Rattle.lotos_pattern.specs.Spelling.{IsWord, EqualsIgnoringCase, parts_of}

-- the name is that of a gate other than these: it is spelled like a gate, is neither `exit` nor `i`, and in upper case
-- it is none of these
pub record IsUnknownGate (gates : List Name) (name : List ℕ) : Type 0 where
  pub spelled : IsWord name
  pub no_exit : EqualsIgnoringCase name termination → ⊥
  pub no_internal : EqualsIgnoringCase name internal → ⊥
  pub no_gate : In (map to_ascii_uppercase name) gates → ⊥

-- one of the names is that of a gate other than these
abbrev pub HasUnknownGate : List Name → List (List ℕ) → Type 0
HasUnknownGate gates names = (name : List ℕ) × In name names × IsUnknownGate gates name

-- the word names a gate other than these: one of its parts between commas does
abbrev pub NamesUnknownGate : List Name → List ℕ → Type 0
NamesUnknownGate gates word = HasUnknownGate gates (parts_of word)

-- no word names a gate other than these
abbrev pub HasNoUnknownGate : List Name → List (List ℕ) → Type 0
HasNoUnknownGate gates words = (k : ℕ) (word : List ℕ) → slice_get words k ≡ Some word → NamesUnknownGate gates word → ⊥

-- none of the first `n` words names a gate other than these
abbrev pub HasNoUnknownGateBefore : ℕ → List Name → List (List ℕ) → Type 0
HasNoUnknownGateBefore n gates words = (k : ℕ) (word : List ℕ) → k < n → slice_get words k ≡ Some word →
    NamesUnknownGate gates word → ⊥

-- the number, counted from 1, of the first word that names a gate other than these
pub record IsFirstUnknownGate (gates : List Name) (words : List (List ℕ)) (n : ℕ) : Type 0 where
  -- the word with this number names one
  pub unknown : HasWord words n (NamesUnknownGate gates)
  -- no word with a smaller number does
  pub earlier : (m : ℕ) → m < n → HasWord words m (NamesUnknownGate gates) → ⊥
