-- What a word of a pattern means on its own, and what the parser of one element returns.
use Rattle.std.specs.Prelude.{◌≡◌, ◌≢◌, ℕ, ◌+◌, ◌<◌, ◌≤◌, Bool, false, List, [], ◌∷◌, ◌++◌, Some, length, map, slice_get, take}
use Rattle.std.specs.String.{string_bytes}
use Rattle.lotos_pattern.specs.Patterns.{Element, IsDemanded, LabelSet, last_refusal}
use Rattle.lotos_pattern.specs.Spelling.{IsAny, IsDeadlock, IsFuture, IsNot, IsRefuses, IsUntil, IsWhile, NamesLabels}
use Rattle.lotos_pattern.specs.Spelling.{RefusalSpelling, SetSpelling, Spelling, Text, WideSetSpelling}
use Rattle.lotos_pattern.specs.PatternFaults.{AwaitsEnd, AwaitsSet, BeginsElement, BeginsNoElement, IsCause, NamesInternal, SpellsNone}
use Rattle.lotos_pattern.specs.declared.fault.PatternFault.{PatternFault}
use Rattle.lotos_pattern.specs.declared.fault.PatternFault.TheVariants.{E41, E42, E43, E44, E45, E48, E50, E51, E99}
use Rattle.lotos_pattern.specs.declared.pattern_parser.WordKind.{WordKind}
use Rattle.lotos_pattern.specs.declared.pattern_parser.WordKind.TheVariants as word_kind

-- what the word means on its own
abbrev pub IsKindOfWord : (strong : Bool) → Text → WordKind → Type 0
IsKindOfWord strong word (word_kind.Labels labels) = NamesLabels strong word (map string_bytes labels.items)
IsKindOfWord strong word word_kind.Internal = NamesInternal word × (strong ≡ false)
IsKindOfWord strong word word_kind.Any = IsAny word
IsKindOfWord strong word word_kind.Not = IsNot word
IsKindOfWord strong word word_kind.Until = IsUntil word
IsKindOfWord strong word word_kind.While = IsWhile word
IsKindOfWord strong word word_kind.Deadlock = IsDeadlock word
IsKindOfWord strong word word_kind.Refuses = IsRefuses word
IsKindOfWord strong word word_kind.Future = IsFuture word
IsKindOfWord strong word word_kind.Unknown = BeginsNoElement strong word

-- another element may follow these
pub record CanBeFollowed (p : List Element) : Type 0 where
  pub goes_on : IsDemanded (last_refusal p) → ⊥
  pub below_limit : length p ≢ 256

-- why no element may follow these, at the word with this number
abbrev pub IsAppendFault : List Element → ℕ → PatternFault → Type 0
IsAppendFault p n (E41 m) = ⊥
IsAppendFault p n (E42 m) = ⊥
IsAppendFault p n (E43 m) = IsDemanded (last_refusal p) × (m ≡ n)
IsAppendFault p n (E44 m) = (IsDemanded (last_refusal p) → ⊥) × (length p ≡ 256) × (m ≡ n)
IsAppendFault p n (E45 m) = ⊥
IsAppendFault p n (E48 m) = ⊥
IsAppendFault p n (E50 m) = ⊥
IsAppendFault p n (E51 m) = ⊥
IsAppendFault p n (E99 e) = ⊥

-- the words from index `index` up to index `end` spell something
pub record IsSpelledAt (Spells : List Text → Type 0) (words : List Text) (index end : ℕ) : Type 0 where
  pub own : List Text
  pub spelling : Spells own
  pub located : take end words ≡ take index words ++ own
  pub further : index < end
  pub within : end ≤ length words

-- they spell the element
abbrev pub ParsesAt : (strong : Bool) → List Text → ℕ → Element → ℕ → Type 0
ParsesAt strong words index e end = IsSpelledAt (Spelling strong e) words index end

-- they spell the set, which may be that of all labels
abbrev pub ParsesSetAt : (strong : Bool) → List Text → ℕ → LabelSet → ℕ → Type 0
ParsesSetAt strong words index set end = IsSpelledAt (WideSetSpelling strong set) words index end

-- they spell the demand that the end refuses the set
abbrev pub ParsesRefusalAt : (strong : Bool) → List Text → ℕ → LabelSet → ℕ → Type 0
ParsesRefusalAt strong words index set end = IsSpelledAt (RefusalSpelling strong set) words index end

-- if an element begins at this index, the fault has its cause and the words spell no pattern
abbrev pub IsFaultAt : (strong : Bool) → List Text → ℕ → PatternFault → Type 0
IsFaultAt strong words index fault = BeginsElement strong words (index + 1) →
    IsCause strong words fault × SpellsNone strong words fault

-- the word at this index, which is `<not>`, and the next one spell the set
pub record SpellsSetAt (strong : Bool) (words : List Text) (index : ℕ) (set : LabelSet) : Type 0 where
  pub first : Text
  pub second : Text
  pub first_at : slice_get words index ≡ Some first
  pub second_at : slice_get words (index + 1) ≡ Some second
  pub spelling : SetSpelling strong set (first ∷ second ∷ [])

-- if a set may begin at this index, the fault has its cause and the words spell no pattern
abbrev pub IsSetFaultAt : (strong : Bool) → List Text → ℕ → PatternFault → Type 0
IsSetFaultAt strong words index fault =
    AwaitsSet strong words (index + 1) → IsCause strong words fault × SpellsNone strong words fault

-- if a demand on the end may begin at this index, the fault has its cause and the words spell no pattern
abbrev pub IsEndFaultAt : (strong : Bool) → List Text → ℕ → PatternFault → Type 0
IsEndFaultAt strong words index fault =
    AwaitsEnd strong words (index + 1) → IsCause strong words fault × SpellsNone strong words fault
