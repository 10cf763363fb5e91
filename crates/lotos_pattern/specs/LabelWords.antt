-- Words that each name a label, and why words do not.
use Rattle.std.specs.Prelude.{◌≡◌, ◌+◌, ℕ, Bool, true, false, List, take}
use Rattle.lotos_pattern.specs.PatternFaults.{HasWord}
use Rattle.lotos_pattern.specs.PatternLabels.{Label, internal}
use Rattle.lotos_pattern.specs.Spelling.{Names, NamesEach, Text}
use Rattle.lotos_pattern.specs.declared.label_words.WordFault.{WordFault}
use Rattle.lotos_pattern.specs.declared.label_words.WordFault.TheVariants.{Internal, NoLabel}

-- the word names no label, not even the internal action
abbrev pub NamesNone : Text → Type 0
NamesNone word = (l : Label) → Names true word l → ⊥

-- the words before the one with this number name labels that can be observed, and `Such` holds of that word
pub record IsFirstWord (strong : Bool) (words : List Text) (n : ℕ) (Such : Text → Type 0) : Type 0 where
  pub before : ℕ
  pub counted : n ≡ before + 1
  pub labels : List Label
  pub named : NamesEach strong (take before words) labels
  pub word : HasWord words n Such

-- why the words do not each name a label that can be observed: the first that does not names none, or it names the
-- internal action, which is not observed
abbrev pub IsWordCause : (strong : Bool) → List Text → WordFault → Type 0
IsWordCause strong words (NoLabel n) = IsFirstWord strong words n NamesNone
IsWordCause strong words (Internal n) = (strong ≡ false) × IsFirstWord strong words n (λ word. Names true word internal)
