-- The labels of a system that words name.
use Rattle.std.proofs.Common.{◌≡◌, ◌+◌, ◌≤◌, ℕ, Bool, List, [], ◌∷◌, ◌++◌, Some, length, take, sym, subst, arith}
use Rattle.std.specs.Prelude.{slice_get}
use Rattle.std.proofs.lemmas.List.{take_all}
use Rattle.lotos_check.specs.NameLists.{Name}
use Rattle.lotos_store.specs.declared.label.Label.{Label as TermLabel}
use Rattle.lotos_terms.specs.TableView.{IsPrintedAs}
use Rattle.lotos_pattern.specs.Spelling.{IsNamed, NamesEach, Text}
use Rattle.lotos_pattern.proofs.LabelNames.{each_named, named_length}
use Rattle.lotos_pattern.proofs.Words.{take_at}
use Rattle.lotos_listing.specs.Order.{Label}
use Rattle.lotos_listing.specs.Question.{ArePrinted}
use Rattle.lotos_listing.proofs.PrintedSequences.{shown_push}

-- the labels so far are those of the words before the index
abbrev pub AreLabelsOf : List Name → List Text → ℕ → List TermLabel → Type 0
AreLabelsOf gates words n labels = (strong : Bool) (s : List Label) → NamesEach strong words s → ArePrinted gates labels (take n s)

-- if the label that the word at the index names is appended, the labels are those of the words before the next index
pub labels_more : (gates : List Name) (words : List Text) (n : ℕ) (labels : List TermLabel) → AreLabelsOf gates words n labels → (word : Text) →
    slice_get words n ≡ Some word → (k : TermLabel) → ((text : Label) → IsNamed word text → IsPrintedAs gates k text) →
    AreLabelsOf gates words (n + 1) (labels ++ k ∷ [])
labels_more gates words n labels so_far word at k shown strong s named =
    let (l, names, there) = each_named strong words s named n word at in
    subst (ArePrinted gates (labels ++ k ∷ [])) (sym (take_at s n l there))
    (shown_push gates labels k (take n s) l (so_far strong s named) (shown l names.named))

-- if no word is left, the labels are those of all words
pub labels_all : (gates : List Name) (words : List Text) (n : ℕ) (labels : List TermLabel) → AreLabelsOf gates words n labels →
    length words ≤ n → (strong : Bool) (s : List Label) →
    NamesEach strong words s → ArePrinted gates labels s
labels_all gates words n labels so_far all strong s named =
    let same = named_length strong words s named in
    let long : length s ≤ n = omega arith in
    subst (ArePrinted gates labels) (take_all n s long) (so_far strong s named)
