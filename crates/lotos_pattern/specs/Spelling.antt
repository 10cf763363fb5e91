-- Which words spell a pattern.
use Rattle.std.specs.Prelude.{◌≡◌, ◌⊎◌, ℕ, ◌≤◌, ◌||◌, ◌==◌, Bool, IsTrue, List, [], ◌∷◌, codes, length, map}
use Rattle.std.specs.Borrow.{Bor}
use Rattle.std.specs.Char.{is_ascii_alphabetic, is_ascii_alphanumeric, to_ascii_lowercase, to_ascii_uppercase}
use Rattle.std.specs.List.{AllByRecursion, slice_split}
use Rattle.lotos_pattern.specs.PatternLabels.{Label, internal, termination}
use Rattle.lotos_pattern.specs.Patterns.{Element, LabelSet, OnlyLastDemandsRefusal, IsJoin, IsObservable, Pattern, one, others, refuses}
use Rattle.lotos_pattern.specs.Patterns.{these, until, until_refuses, while}

-- a word as its bytes
abbrev pub Text : Type 0
Text = List ℕ

-- the bytes of the words of a list
abbrev pub texts_of : List (Bor Text) → List Text
texts_of words = map (λ word. word.now) words

-- a letter, a digit or an underscore
abbrev pub is_word_byte : ℕ → Bool
is_word_byte b = is_ascii_alphanumeric b || (b == 95)

-- a letter, then letters, digits and underscores
abbrev pub IsWord : Text → Type 0
IsWord [] = ⊥
IsWord (b ∷ bs) = IsTrue (is_ascii_alphabetic b) × AllByRecursion (λ c. IsTrue (is_word_byte c)) bs

-- the word is this text, in any mix of cases
abbrev pub EqualsIgnoringCase : Text → Text → Type 0
EqualsIgnoringCase word text = map to_ascii_lowercase word ≡ text

-- what a word names: `exit` termination, `i` the internal action, and every other word a gate, by its name in upper
-- case
pub data IsNamed (word : Text) : Label → Type 0 where
  exits : EqualsIgnoringCase word termination → IsNamed word termination
  inside : EqualsIgnoringCase word internal → IsNamed word internal
  gate : (EqualsIgnoringCase word termination → ⊥) → (EqualsIgnoringCase word internal → ⊥) →
      IsNamed word (map to_ascii_uppercase word)

-- the word names the label, which can be observed
pub record Names (strong : Bool) (word : Text) (l : Label) : Type 0 where
  pub spelled : IsWord word
  pub named : IsNamed word l
  pub observable : IsObservable strong l

-- the names are those of the labels, each of one, in this order
abbrev pub NamesEach : (strong : Bool) → List Text → List Label → Type 0
NamesEach strong [] [] = Unit {0}
NamesEach strong [] (l ∷ labels) = ⊥
NamesEach strong (name ∷ names) [] = ⊥
NamesEach strong (name ∷ names) (l ∷ labels) = Names strong name l × NamesEach strong names labels

-- the parts of a word between its commas
abbrev pub parts_of : Text → List Text
parts_of word = slice_split (λ b. b == 44) word

-- the word is the names of the labels, with commas between them
abbrev pub NamesLabels : (strong : Bool) → Text → List Label → Type 0
NamesLabels strong word labels = NamesEach strong (parts_of word) labels

-- the word is `<any>`, in any mix of cases
abbrev pub IsAny : Text → Type 0
IsAny word = EqualsIgnoringCase word (codes "<any>")

-- the word is `<not>`, in any mix of cases
abbrev pub IsNot : Text → Type 0
IsNot word = EqualsIgnoringCase word (codes "<not>")

-- the word is `<until>`, in any mix of cases
abbrev pub IsUntil : Text → Type 0
IsUntil word = EqualsIgnoringCase word (codes "<until>")

-- the word is `<while>`, in any mix of cases
abbrev pub IsWhile : Text → Type 0
IsWhile word = EqualsIgnoringCase word (codes "<while>")

-- the word is `<deadlock>`, in any mix of cases
abbrev pub IsDeadlock : Text → Type 0
IsDeadlock word = EqualsIgnoringCase word (codes "<deadlock>")

-- the word is `<refuses>`, in any mix of cases
abbrev pub IsRefuses : Text → Type 0
IsRefuses word = EqualsIgnoringCase word (codes "<refuses>")

-- the word is `<livelock>`, in any mix of cases
abbrev pub IsLivelock : Text → Type 0
IsLivelock word = EqualsIgnoringCase word (codes "<livelock>")

-- the word is `<forever>`, in any mix of cases
abbrev pub IsForever : Text → Type 0
IsForever word = EqualsIgnoringCase word (codes "<forever>")

-- the word is `<never>`, in any mix of cases
abbrev pub IsNever : Text → Type 0
IsNever word = EqualsIgnoringCase word (codes "<never>")

-- the word is `<livelock>`, `<forever>` or `<never>`, which demand something of what can come after the end
abbrev pub IsFuture : Text → Type 0
IsFuture word = IsLivelock word ⊎ (IsForever word ⊎ IsNever word)

-- the words that spell a set of labels: the names of its labels, or `<not>` and the names of those that are not in it
pub data SetSpelling (strong : Bool) : LabelSet → List Text → Type 0 where
  named : {word : Text} {labels : List Label} → NamesLabels strong word labels →
      SetSpelling strong (these labels) (word ∷ [])
  complement : {first second : Text} {labels : List Label} → IsNot first → NamesLabels strong second labels →
      SetSpelling strong (others labels) (first ∷ second ∷ [])

-- the words that spell a set of labels, or `<any>`, which is the set of all labels
pub data WideSetSpelling (strong : Bool) : LabelSet → List Text → Type 0 where
  some : {set : LabelSet} {words : List Text} → SetSpelling strong set words → WideSetSpelling strong set words
  all : {word : Text} → IsAny word → WideSetSpelling strong (others []) (word ∷ [])

-- the words of the demand that the end refuses a set: `<deadlock>`, of which the set is that of all labels, or
-- `<refuses>` and the words of the set
pub data RefusalSpelling (strong : Bool) : LabelSet → List Text → Type 0 where
  deadlock : {word : Text} → IsDeadlock word → RefusalSpelling strong (others []) (word ∷ [])
  refused : {first : Text} {set : LabelSet} {rest : List Text} → IsRefuses first → WideSetSpelling strong set rest →
      RefusalSpelling strong set (first ∷ rest)

-- the words that spell an element
pub data Spelling (strong : Bool) : Element → List Text → Type 0 where
  -- a set: one label of it
  one_of : {set : LabelSet} {words : List Text} → WideSetSpelling strong set words → Spelling strong (one set) words
  -- `<until>`, and a set
  until_set : {first : Text} {set : LabelSet} {rest : List Text} → IsUntil first → SetSpelling strong set rest →
      Spelling strong (until set) (first ∷ rest)
  -- `<while>`, and a set
  while_set : {first : Text} {set : LabelSet} {rest : List Text} → IsWhile first → WideSetSpelling strong set rest →
      Spelling strong (while set) (first ∷ rest)
  -- the demand that the end refuses a set
  end : {set : LabelSet} {words : List Text} → RefusalSpelling strong set words → Spelling strong (refuses set) words
  -- `<until>`, and such a demand
  until_end : {first : Text} {set : LabelSet} {rest : List Text} → IsUntil first → RefusalSpelling strong set rest →
      Spelling strong (until_refuses set) (first ∷ rest)

-- the words spell the pattern: they are the concatenation of those of at most 256 elements, of which only the last may
-- demand that the end refuses a set; if internal steps are observed, the internal action is a label like others
pub record PatternOf (strong : Bool) (words : List Text) (p : Pattern) : Type 0 where
  pub shows : p.strong ≡ strong
  pub spelled : IsJoin (Spelling strong) p.elements words
  pub short : length p.elements ≤ 256
  pub ends_last : OnlyLastDemandsRefusal p.elements
