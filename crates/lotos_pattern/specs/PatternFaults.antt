-- Why words spell no pattern. Words are numbered from 1.
use Rattle.std.specs.Prelude.{◌≡◌, ◌⊎◌, ℕ, ◌+◌, ◌<◌, Bool, true, false, List, Some, Contains, length, slice_get, take}
use Rattle.lotos_pattern.specs.PatternLabels.{Label, internal}
use Rattle.lotos_pattern.specs.Patterns.{DemandsRefusal, Pattern}
use Rattle.lotos_pattern.specs.Spelling.{IsAny, IsDeadlock, IsFuture, IsNot, IsRefuses, IsUntil, IsWhile}
use Rattle.lotos_pattern.specs.Spelling.{NamesLabels, PatternOf, Text}
use Rattle.lotos_pattern.specs.declared.fault.PatternFault.{PatternFault}
use Rattle.lotos_pattern.specs.declared.fault.PatternFault.TheVariants.{E41, E42, E43, E44, E45, E48, E50, E51, E99}

-- `Such` holds of the word with this number
pub record HasWord (words : List Text) (n : ℕ) (Such : Text → Type 0) : Type 0 where
  pub before : ℕ
  pub word : Text
  pub counted : n ≡ before + 1
  pub located : slice_get words before ≡ Some word
  pub such : Such word

-- the word is a list of names, and the internal action is among the labels that they name
pub record NamesInternal (word : Text) : Type 0 where
  pub labels : List Label
  pub named : NamesLabels true word labels
  pub internal : Contains labels internal

module _ (strong : Bool) where
  -- the words before the one with this number spell the pattern
  pub record IsAfterPattern (words : List Text) (n : ℕ) (p : Pattern) : Type 0 where
    pub before : ℕ
    pub counted : n ≡ before + 1
    pub there : before < length words
    pub spelled : PatternOf strong (take before words) p

  -- an element begins at the word with this number: the words before it spell a pattern that another element may follow
  pub record BeginsElement (words : List Text) (n : ℕ) : Type 0 where
    pub pattern : Pattern
    pub is_after : IsAfterPattern words n pattern
    pub goes_on : DemandsRefusal pattern → ⊥
    pub below_limit : length pattern.elements < 256

  -- the word names labels
  abbrev pub IsLabels : Text → Type 0
  IsLabels word = (labels : List Label) × NamesLabels strong word labels

  -- no element begins with the word, it does not name the internal action, and it is no demand on what can come after
  -- the end
  pub record BeginsNoElement (word : Text) : Type 0 where
    pub labels : IsLabels word → ⊥
    pub internal : NamesInternal word → ⊥
    pub any : IsAny word → ⊥
    pub complement : IsNot word → ⊥
    pub until : IsUntil word → ⊥
    pub while : IsWhile word → ⊥
    pub deadlock : IsDeadlock word → ⊥
    pub refuses : IsRefuses word → ⊥
    pub future : IsFuture word → ⊥

  -- the word goes on no element that `<until>` begins, it does not name the internal action, and it is no demand on
  -- what can come after the end
  pub record EndsNoUntil (word : Text) : Type 0 where
    pub labels : IsLabels word → ⊥
    pub internal : NamesInternal word → ⊥
    pub complement : IsNot word → ⊥
    pub deadlock : IsDeadlock word → ⊥
    pub refuses : IsRefuses word → ⊥
    pub future : IsFuture word → ⊥

  -- the word begins no set, is not `<any>`, and does not name the internal action
  pub record BeginsNoSet (word : Text) : Type 0 where
    pub labels : IsLabels word → ⊥
    pub internal : NamesInternal word → ⊥
    pub complement : IsNot word → ⊥
    pub any : IsAny word → ⊥

  -- the word ends no set that `<not>` begins, and it does not name the internal action
  pub record EndsNoComplement (word : Text) : Type 0 where
    pub labels : IsLabels word → ⊥
    pub internal : NamesInternal word → ⊥

  -- an element begins at the word with this number, and `Such` holds of the word
  pub record BeginsWith (words : List Text) (n : ℕ) (Such : Text → Type 0) : Type 0 where
    pub begins : BeginsElement words n
    pub first : HasWord words n Such

  -- no set comes after the word with this number, nor `<any>`
  abbrev pub HasNoSetAfter : List Text → ℕ → Type 0
  HasNoSetAfter words n = HasWord words (n + 1) BeginsNoSet ⊎ (length words ≡ n)

  -- an element begins at the word with this number, or `<until>` comes before it: a demand on the end may begin there
  abbrev pub AwaitsEnd : List Text → ℕ → Type 0
  AwaitsEnd words n = BeginsElement words n ⊎ ((before : ℕ) × (n ≡ before + 1) × BeginsWith words before IsUntil)

  -- a set may begin at the word with this number: an element begins there, or `<until>`, `<while>` or `<refuses>` comes
  -- before it
  abbrev pub AwaitsSet : List Text → ℕ → Type 0
  AwaitsSet words n = AwaitsEnd words n ⊎ ((before : ℕ) × (n ≡ before + 1) ×
      (BeginsWith words before IsWhile ⊎ (AwaitsEnd words before × HasWord words before IsRefuses)))

  -- the word with this number may name labels: a set may begin there, or `<not>` begins one before it
  abbrev pub AwaitsLabels : List Text → ℕ → Type 0
  AwaitsLabels words n = AwaitsSet words n
      ⊎ ((before : ℕ) × (n ≡ before + 1) × AwaitsSet words before × HasWord words before IsNot)

  -- the cause of a fault. E41: an element should begin, and none begins with the word. E42: an element begins with
  -- `<until>`, and does not go on with the next word, or there is none. E43: the words before spell a pattern that
  -- demands a refusal. E44: the words before spell 256 elements and demand no refusal. E45: the word may name labels,
  -- and names the internal action, which is not observed. E48: an element begins with `<while>`, and does not go on
  -- with the next word, or there is none. E50: a set begins with `<not>`, and the next word does not name its labels,
  -- or there is none; or a demand on the end begins with `<refuses>`, and no set comes after it. E51: a demand on the
  -- end may begin at the word, and the word is a demand on what can come after the end
  abbrev pub IsCause : List Text → PatternFault → Type 0
  IsCause words (E41 n) = BeginsElement words n × HasWord words n BeginsNoElement
  IsCause words (E42 n) = BeginsWith words n IsUntil × (HasWord words (n + 1) EndsNoUntil ⊎ (length words ≡ n))
  IsCause words (E43 n) = (p : Pattern) × IsAfterPattern words n p × DemandsRefusal p
  IsCause words (E44 n) = (p : Pattern) × IsAfterPattern words n p × (DemandsRefusal p → ⊥) × (length p.elements ≡ 256)
  IsCause words (E45 n) = AwaitsLabels words n × HasWord words n NamesInternal × (strong ≡ false)
  IsCause words (E48 n) = BeginsWith words n IsWhile × HasNoSetAfter words n
  IsCause words (E50 n) = (AwaitsSet words n × HasWord words n IsNot ×
      (HasWord words (n + 1) EndsNoComplement ⊎ (length words ≡ n)))
      ⊎ (AwaitsEnd words n × HasWord words n IsRefuses × HasNoSetAfter words n)
  IsCause words (E51 n) = AwaitsEnd words n × HasWord words n IsFuture
  IsCause words (E99 e) = Unit {0}

  -- the fault is that memory ran out, or the words spell no pattern
  abbrev pub SpellsNone : List Text → PatternFault → Type 0
  SpellsNone words (E41 n) = (p : Pattern) → PatternOf strong words p → ⊥
  SpellsNone words (E42 n) = (p : Pattern) → PatternOf strong words p → ⊥
  SpellsNone words (E43 n) = (p : Pattern) → PatternOf strong words p → ⊥
  SpellsNone words (E44 n) = (p : Pattern) → PatternOf strong words p → ⊥
  SpellsNone words (E45 n) = (p : Pattern) → PatternOf strong words p → ⊥
  SpellsNone words (E48 n) = (p : Pattern) → PatternOf strong words p → ⊥
  SpellsNone words (E50 n) = (p : Pattern) → PatternOf strong words p → ⊥
  SpellsNone words (E51 n) = (p : Pattern) → PatternOf strong words p → ⊥
  SpellsNone words (E99 e) = Unit {0}
