-- The labels that a word names.
use Rattle.std.proofs.Common.{◌≡◌, ℕ, zero, suc, ◌+◌, ◌<◌, ◌≤◌, Bool, true, false, not, ◌&&◌, List, [], ◌∷◌, ◌++◌, length, replicate, refl, sym, ap, subst, arith, Some}
use Rattle.std.specs.Prelude.{◌==◌, All, Contains, IsTrue, MatchBool, slice_get}
use Rattle.std.specs.Char.{is_ascii_alphabetic, to_ascii_lowercase}
use Rattle.std.specs.List.{onto_first}
use Rattle.std.proofs.lemmas.Bool.Decides.{nat_tests}
use Rattle.std.proofs.lemmas.List.{length-replicate}
use Rattle.std.proofs.lemmas.List.Elements.{All-cons, All-contains, All-contains_itself, All-head, All-nil, All-tail, All-weaker, Contains-append_left, Contains-push}
use Rattle.std.proofs.lemmas.List.Splits.{length-slice_split, slice_split-cons_no}
use Rattle.std.proofs.lemmas.Option.{same_Some}
use Rattle.lotos_pattern.specs.PatternLabels.{Label, internal}
use Rattle.lotos_pattern.specs.Patterns.{IsIn, IsObservable, LabelSet, others, these}
use Rattle.lotos_pattern.specs.Spelling.{EqualsIgnoringCase, IsWord, Names, NamesEach, SetSpelling, Text, complement, named, parts_of}
use Rattle.lotos_pattern.specs.PatternFaults.{IsLabels, NamesInternal}
use Rattle.lotos_pattern.proofs.Words.{one_named, other_observable}

-- names name their labels, and no others
pub same_labels : (strong : Bool) (names : List Text) (l m : List Label) → NamesEach strong names l → NamesEach strong names m → l ≡ m
same_labels strong [] [] [] h k = refl
same_labels strong [] [] (m ∷ ms) h k = absurd k
same_labels strong [] (l ∷ ls) m h k = absurd h
same_labels strong (name ∷ names) [] m h k = absurd h
same_labels strong (name ∷ names) (l ∷ ls) [] h k = absurd k
same_labels strong (name ∷ names) (l ∷ ls) (m ∷ ms) h k =
    let first = one_named name l m h.0.named k.0.named in
    let rest = same_labels strong names ls ms h.1 k.1 in
    cc

-- what names labels names them where internal steps are observed
pub named_if_observed : (strong : Bool) (names : List Text) (labels : List Label) → NamesEach strong names labels → NamesEach true names labels
named_if_observed strong [] [] h = tt
named_if_observed strong [] (l ∷ labels) h = absurd h
named_if_observed strong (name ∷ names) [] h = absurd h
named_if_observed strong (name ∷ names) (l ∷ labels) h =
    (record { spelled = h.0.spelled; named = h.0.named; observable = tt }, named_if_observed strong names labels h.1)

-- all labels that are named can be observed
all_observable : (strong : Bool) (names : List Text) (labels : List Label) → NamesEach strong names labels → All (IsObservable strong) labels
all_observable strong [] [] h = All-nil (IsObservable strong)
all_observable strong [] (l ∷ labels) h = absurd h
all_observable strong (name ∷ names) [] h = absurd h
all_observable strong (name ∷ names) (l ∷ labels) h = All-cons (IsObservable strong) l labels h.0.observable (all_observable strong names labels h.1)

-- and labels that can be observed are named
named_as_observed : (strong : Bool) (names : List Text) (labels : List Label) → NamesEach true names labels → All (IsObservable strong) labels →
    NamesEach strong names labels
named_as_observed strong [] [] h seen = tt
named_as_observed strong [] (l ∷ labels) h seen = absurd h
named_as_observed strong (name ∷ names) [] h seen = absurd h
named_as_observed strong (name ∷ names) (l ∷ labels) h seen = (
  record { spelled = h.0.spelled; named = h.0.named; observable = All-head (IsObservable strong) l labels seen },
  named_as_observed strong names labels h.1 (All-tail (IsObservable strong) l labels seen),
)

-- one name more, and its label
pub names_more : (strong : Bool) (names : List Text) (labels : List Label) (name : Text) (l : Label) → NamesEach strong names labels → Names strong name l →
    NamesEach strong (names ++ name ∷ []) (labels ++ l ∷ [])
names_more strong [] [] name l h n = (n, tt)
names_more strong [] (m ∷ labels) name l h n = absurd h
names_more strong (first ∷ names) [] name l h n = absurd h
names_more strong (first ∷ names) (m ∷ labels) name l h n = (h.0, names_more strong names labels name l h.1 n)

-- as many labels as names
pub named_length : (strong : Bool) (names : List Text) (labels : List Label) → NamesEach strong names labels → length names ≡ length labels
named_length strong [] [] h = refl
named_length strong [] (l ∷ labels) h = absurd h
named_length strong (name ∷ names) [] h = absurd h
named_length strong (name ∷ names) (l ∷ labels) h = ap suc (named_length strong names labels h.1)

-- the name at an index is that of the label there
pub each_named : (strong : Bool) (names : List Text) (labels : List Label) → NamesEach strong names labels → (i : ℕ) (name : Text) →
    slice_get names i ≡ Some name →
    (l : Label) × Names strong name l × (slice_get labels i ≡ Some l)
each_named strong [] [] h i name at = cc
each_named strong [] (l ∷ labels) h i name at = absurd h
each_named strong (first ∷ names) [] h i name at = absurd h
each_named strong (first ∷ names) (l ∷ labels) h zero name at = (l, subst (λ w. Names strong w l) (same_Some first name at) h.0, refl)
each_named strong (first ∷ names) (l ∷ labels) h (suc i) name at = each_named strong names labels h.1 i name at

-- each name is a word
pub each_is_word : (strong : Bool) (names : List Text) (labels : List Label) (i : ℕ) (name : Text) → slice_get names i ≡ Some name →
    NamesEach strong names labels → IsWord name
each_is_word strong names labels i name here h = let (l, n, there) = each_named strong names labels h i name here in n.spelled

-- only the internal action cannot be observed
all_but_internal : (strong : Bool) (labels : List Label) → (Contains labels internal → ⊥) → All (IsObservable strong) labels
all_but_internal strong labels none =
    All-weaker (Contains labels) (IsObservable strong) (λ l has. other_observable strong l (λ e. none (subst (Contains labels) e has))) labels
    (All-contains_itself labels)

-- if internal steps are observed, all labels can be observed
observed_all : (labels : List Label) → All (IsObservable true) labels
observed_all [] = All-nil (IsObservable true)
observed_all (l ∷ labels) = All-cons (IsObservable true) l labels tt (observed_all labels)

-- what a word that names labels means, by whether the internal action is among them and is observed
pub hidden_labels : (strong has : Bool) (labels : List Label) → MatchBool has (Contains labels internal) (Contains labels internal → ⊥) →
    not strong && has ≡ true →
    (strong ≡ false) × Contains labels internal
hidden_labels true has labels h e = absurd (let z : ⊥ = cc in z)
hidden_labels false true labels h e = (refl, h)
hidden_labels false false labels h e = absurd (let z : ⊥ = cc in z)

-- names of labels name them as labels that can be observed, unless the internal action is among them
-- and is not observed
pub seen_labels : (strong has : Bool) (names : List Text) (labels : List Label) → MatchBool has (Contains labels internal) (Contains labels internal → ⊥) →
    not strong && has ≡ false → NamesEach true names labels → NamesEach strong names labels
seen_labels true has names labels h e n = named_as_observed true names labels n (observed_all labels)
seen_labels false true names labels h e n = absurd (let z : ⊥ = cc in z)
seen_labels false false names labels h e n = named_as_observed false names labels n (all_but_internal false labels h)

-- where internal steps are not observed, a word that names the internal action names no labels
pub internal_no_labels : (strong : Bool) (word : Text) → strong ≡ false → NamesInternal word → IsLabels strong word → ⊥
internal_no_labels strong word hidden is (labels, n) =
    let same = same_labels true (parts_of word) labels is.labels (named_if_observed strong (parts_of word) labels n) is.named in
    let seen = all_observable strong (parts_of word) labels n in
    let observable : IsObservable strong internal = All-contains (IsObservable strong) labels internal seen
    (subst (λ ls. Contains ls internal) (sym same) is.internal) in
    let P = λ (b : Bool). IsObservable b internal in
    subst P hidden observable refl

-- where they are not observed, a word that names no labels where they are names none
pub no_labels : (strong : Bool) (word : Text) → (IsLabels true word → ⊥) → IsLabels strong word → ⊥
no_labels strong word none (labels, n) = none (labels, named_if_observed strong (parts_of word) labels n)

-- a word that names no labels if internal steps are observed does not name the internal action
pub no_labels_no_internal : (word : Text) → (IsLabels true word → ⊥) → NamesInternal word → ⊥
no_labels_no_internal word none is = none (is.labels, is.named)

-- names begin with a letter
letter : (b : ℕ) → IsTrue (is_ascii_alphabetic b) → to_ascii_lowercase b ≡ 60 → ⊥
letter b h e = grind (arith, nat_tests)

-- a byte that is `<` in lower case is no comma
no_comma : (b : ℕ) → to_ascii_lowercase b ≡ 60 → (b == 44) ≡ false
no_comma b e = grind (arith, nat_tests)

-- if a byte begins the first of the names of some labels, it is a letter
names_begin : (strong : Bool) (b : ℕ) (parts : List Text) (labels : List Label) → NamesEach strong (onto_first b parts) labels → IsTrue (is_ascii_alphabetic b)
names_begin strong b [] [] h = absurd h
names_begin strong b [] (l ∷ labels) h = h.0.spelled.0
names_begin strong b (part ∷ parts) [] h = absurd h
names_begin strong b (part ∷ parts) (l ∷ labels) h = h.0.spelled.0

-- a word that names labels is no word in angle brackets
pub labels_no_angle : (strong : Bool) (word tail : Text) → IsLabels strong word → EqualsIgnoringCase word (60 ∷ tail) → ⊥
labels_no_angle strong [] tail (labels, n) e = let z : ⊥ = cc in z
labels_no_angle strong (b ∷ bs) tail (labels, n) e =
    let lower : to_ascii_lowercase b ≡ 60 = cc in
    let parts : parts_of (b ∷ bs) ≡ onto_first b (parts_of bs) = slice_split-cons_no (λ c. c == 44) b bs (no_comma b lower) in
    letter b (names_begin strong b (parts_of bs) labels (subst (λ names. NamesEach strong names labels) parts n)) lower

-- a word that names the internal action is no word in angle brackets
pub internal_no_angle : (word tail : Text) → NamesInternal word → EqualsIgnoringCase word (60 ∷ tail) → ⊥
internal_no_angle word tail is e = labels_no_angle true word tail (is.labels, is.named) e

-- the length of labels together
abbrev total : List Label → ℕ
total [] = 0
total (l ∷ labels) = length l + total labels

-- each of the labels is at most as long as all of them together
all_shorter : (labels : List Label) → All (λ l. length l ≤ total labels) labels
all_shorter [] = All-nil (λ l. length l ≤ 0)
all_shorter (l ∷ labels) =
    let bound = total (l ∷ labels) in
    All-cons (λ m. length m ≤ bound) l labels (omega arith)
    (All-weaker (λ m. length m ≤ total labels) (λ m. length m ≤ bound) (λ m h. omega arith) labels (all_shorter labels))

-- a label that is longer is none of them
other_label : (strong : Bool) (labels : List Label) → (l : Label) × IsIn l (others labels) × IsObservable strong l
other_label strong labels =
    let l : Label = replicate (total labels + 2) 65 in
    let long : length l ≡ total labels + 2 = length-replicate (total labels + 2) 65 in (
      l,
      λ has. let short : length l ≤ total labels = All-contains (λ m. length m ≤ total labels) labels l (all_shorter labels) has in absurd (omega arith),
      other_observable strong l (λ e. let one : length l ≡ 1 = ap length e in absurd (omega arith)),
    )

-- if there are names, the set of the labels that they name has one that can be observed
named_label : (strong : Bool) (names : List Text) (labels : List Label) → 0 < length names → NamesEach strong names labels →
    (l : Label) × IsIn l (these labels) × IsObservable strong l
named_label strong [] labels some h = absurd (omega arith)
named_label strong (name ∷ names) [] some h = absurd h
named_label strong (name ∷ names) (l ∷ labels) some h = (l, Contains-append_left (l ∷ []) labels l (Contains-push [] l), h.0.observable)

-- a set that is spelled has a label that can be observed
pub some_label : (strong : Bool) (set : LabelSet) (words : List Text) → SetSpelling strong set words → (l : Label) × IsIn l set × IsObservable strong l
some_label strong _ _ (named {word = word} {labels = labels} n) =
    let many = length-slice_split (λ b. b == 44) word in named_label strong (parts_of word) labels (omega arith) n
some_label strong _ _ (complement {labels = labels} i n) = other_label strong labels

-- the set of all labels has one that can be observed
pub some_other_label : (strong : Bool) → (l : Label) × IsIn l (others []) × IsObservable strong l
some_other_label strong = other_label strong []
