-- Words that each name a label, and the first word that does not.
use Rattle.std.proofs.Common.{◌≡◌, ◌∙◌, ◌+◌, ◌<◌, ℕ, Bool, true, false, List, [], ◌∷◌, ◌++◌, Some, length, map, take, get_or, refl, ap, sym, subst, string_bytes}
use Rattle.std.specs.Prelude.{slice_get}
use Rattle.std.specs.Char.{to_ascii_lowercase}
use Rattle.std.specs.Option.{option_map}
use Rattle.std.specs.Str.{bytes_eq}
use Rattle.std.specs.declared.alloc.Global.{Global}
use Rattle.std.specs.declared.string.String.{String}
use Rattle.std.proofs.lemmas.Option.{slice_get-map, slice_get_read}
use Rattle.std.proofs.lemmas.Slice.Eq.{bytes_eq-Decides}
use Rattle.lotos_pattern.specs.PatternLabels.{Label, internal, termination}
use Rattle.lotos_pattern.specs.Spelling.{EqualsIgnoringCase, IsWord, Names, NamesEach, Text, inside}
use Rattle.lotos_pattern.specs.LabelWords.{IsFirstWord}
use Rattle.lotos_pattern.proofs.LabelNames.{each_named, names_more}
use Rattle.lotos_pattern.proofs.Words.{names_exit, names_gate, names_internal, one_named, take_at}

module _ (strong : Bool) (words : List Text) where
  -- the first `n` words name labels
  abbrev pub AreNamed : ℕ → Type 0
  AreNamed n = (labels : List Label) × NamesEach strong (take n words) labels

  -- if the first `n` words name labels, and so does the word after them, the first `n + 1` do
  pub named_more : (n : ℕ) (word : Text) → slice_get words n ≡ Some word → AreNamed n → (l : Label) → Names strong word l → AreNamed (n + 1)
  named_more n word at (labels, named) l names = (
    labels ++ l ∷ [],
    subst (λ ws. NamesEach strong ws (labels ++ l ∷ [])) (sym (take_at words n word at))
        (names_more strong (take n words) labels word l named names),
  )

  module _ (n : ℕ) (word : Text) (at : slice_get words n ≡ Some word) where
    -- the word is the first of which something holds
    pub first_word : (Such : Text → Type 0) → AreNamed n → Such word → IsFirstWord strong words (n + 1) Such
    first_word Such (labels, named) such = record {
      before = n;
      counted = refl;
      labels = labels;
      named = named;
      word = record { before = n; word = word; counted = refl; located = at; such = such };
    }

    -- if it names no label, the words do not each name one
    pub none_named : ((l : Label) → Names strong word l → ⊥) → (labels : List Label) → NamesEach strong words labels → ⊥
    none_named none labels named = let (l, names, there) = each_named strong words labels named n word at in none l names

-- ---- one word

-- the text of the word that is read at an index
pub text_at : (words : List (String Global)) (n : ℕ) (word : String Global) (text : Text) → n < length words → word ≡ get_or words n word →
    text ≡ string_bytes word → slice_get (map string_bytes words) n ≡ Some text
text_at words n word text below read is =
    slice_get-map string_bytes words n ∙ ap (option_map string_bytes) (slice_get_read words (length words) n word refl below read) ∙ ap Some (sym is)

-- a word that is no name names no label
pub no_word : (strong : Bool) (word : Text) → (IsWord word → ⊥) → (l : Label) → Names strong word l → ⊥
no_word strong word none l names = none names.spelled

-- the internal action is no label where it is not observed
pub no_internal : (word : Text) → EqualsIgnoringCase word internal → (l : Label) → Names false word l → ⊥
no_internal word reads l names = names.observable (one_named word l internal names.named (inside reads))

-- every other word names a label
pub names_some : (strong : Bool) (word : Text) → IsWord word → (strong ≡ false → EqualsIgnoringCase word internal → ⊥) → (l : Label) × Names strong word l
names_some strong word spelled seen =
    go (bytes_eq (map to_ascii_lowercase word) termination) refl (bytes_eq (map to_ascii_lowercase word) internal) refl strong seen
  where
    is : (text : Text) → bytes_eq (map to_ascii_lowercase word) text ≡ true → EqualsIgnoringCase word text
    is text e = (bytes_eq-Decides (map to_ascii_lowercase word) text).0 e

    is_not : (text : Text) → bytes_eq (map to_ascii_lowercase word) text ≡ false → EqualsIgnoringCase word text → ⊥
    is_not text e same = let z : true ≡ false = sym ((bytes_eq-Decides (map to_ascii_lowercase word) text).1 same) ∙ e in cc

    go : (e : Bool) → bytes_eq (map to_ascii_lowercase word) termination ≡ e → (i : Bool) → bytes_eq (map to_ascii_lowercase word) internal ≡ i → (st : Bool) →
        (st ≡ false → EqualsIgnoringCase word internal → ⊥) → (l : Label) × Names st word l
    go true e i at st seen = (_, names_exit st word spelled (is termination e))
    go false e false at st seen = (_, names_gate st word spelled (is_not termination e) (is_not internal at))
    go false e true at true seen = (_, names_internal word spelled (is internal at))
    go false e true at false seen = absurd (seen refl (is internal at))
