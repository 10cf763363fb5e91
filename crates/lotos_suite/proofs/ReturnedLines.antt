-- The lines that the program returns are those of the search.
use Rattle.std.proofs.Common.{◌≡◌, ◌∙◌, ℕ, zero, suc, List, [], ◌∷◌, Some, inl, inr, length, map, ap, arith, refl, subst, sym, slice_get}
use Rattle.std.specs.Option.{unwrap_or}
use Rattle.std.proofs.lemmas.Option.{same_Some}
use Rattle.lotos_check.specs.NameLists.{In, Name}
use Rattle.lotos_check.proofs.ListIndices.{get_in}
use Rattle.lotos_store.specs.declared.label.Label.{Label as TermLabel}
use Rattle.lotos_listing.specs.Lookups.{text_of}
use Rattle.lotos_suite.specs.GraphMachines.{label_texts}
use Rattle.lotos_suite.specs.SuitePrefixes.{labels_at, line_of}
use Rattle.lotos_suite.specs.SuiteResults.{HasLabels, returned_line, returned_lines}
use Rattle.lotos_suite.specs.SuiteSearch.{kept_line}
use Rattle.lotos_suite.specs.declared.suite.SuiteLine.{SuiteLine}
use Rattle.lotos_suite.specs.declared.suite_lines.CutLine.{CutLine}

-- the text of a label that is read
text_read : (names : List Name) (labels : List TermLabel) (n : ℕ) (l : TermLabel) → slice_get labels n ≡ Some l →
    text_of names l ≡ unwrap_or (slice_get (label_texts names labels) n) []
text_read names [] n l e = cc
text_read names (k ∷ labels) zero l e = ap (text_of names) (sym (same_Some k l e))
text_read names (k ∷ labels) (suc n) l e = text_read names labels n l e

-- the texts of labels that are read by their numbers
texts_read : (names : List Name) (labels ls : List TermLabel) (ns : List ℕ) → length ls ≡ length ns →
    ((k n : ℕ) (l : TermLabel) → slice_get ns k ≡ Some n → slice_get ls k ≡ Some l → slice_get labels n ≡ Some l) →
    map (text_of names) ls ≡ labels_at (label_texts names labels) ns
texts_read names labels [] [] counted each = refl
texts_read names labels [] (n ∷ ns) counted each = absurd (omega arith)
texts_read names labels (l ∷ ls) [] counted each = absurd (omega arith)
texts_read names labels (l ∷ ls) (n ∷ ns) counted each =
    ap (λ z. z ∷ map (text_of names) ls) (text_read names labels n l (each 0 n l refl refl)) ∙
    ap (λ z. unwrap_or (slice_get (label_texts names labels) n) [] ∷ z)
    (texts_read names labels ls ns (omega arith) (λ k m o at there. each (suc k) m o at there))

-- a line with its labels is the one with their numbers
pub one_returned : (names : List Name) (labels : List TermLabel) (line : CutLine) (other : SuiteLine) → HasLabels labels line other →
    returned_line names other ≡ kept_line (label_texts names labels) line
one_returned names labels line other has =
    ap (λ z. line_of z other.is_refused) (texts_read names labels other.labels.items line.labels.items has.counted has.each) ∙
    ap (line_of (labels_at (label_texts names labels) line.labels.items)) has.refused

-- and so are all
pub all_returned : (names : List Name) (labels : List TermLabel) (lines : List CutLine) (others : List SuiteLine) → length others ≡ length lines →
    ((k : ℕ) (line : CutLine) (other : SuiteLine) → slice_get lines k ≡ Some line → slice_get others k ≡ Some other → HasLabels labels line other) →
    returned_lines names others ≡ map (kept_line (label_texts names labels)) lines
all_returned names labels [] [] counted each = refl
all_returned names labels [] (o ∷ others) counted each = absurd (omega arith)
all_returned names labels (l ∷ lines) [] counted each = absurd (omega arith)
all_returned names labels (l ∷ lines) (o ∷ others) counted each =
    ap (λ z. z ∷ returned_lines names others) (one_returned names labels l o (each 0 l o refl refl)) ∙
    ap (λ z. kept_line (label_texts names labels) l ∷ z) (all_returned names labels lines others (omega arith)
    (λ k line other at there. each (suc k) line other at there))

-- the labels of a line are among those that it has by their numbers
line_known : (labels ls : List TermLabel) (ns : List ℕ) → length ls ≡ length ns →
    ((k n : ℕ) (l : TermLabel) → slice_get ns k ≡ Some n → slice_get ls k ≡ Some l → slice_get labels n ≡ Some l) →
    (l : TermLabel) → In l ls → In l labels
line_known labels [] ns counted each l i = absurd i
line_known labels (x ∷ ls) [] counted each l i = absurd (omega arith)
line_known labels (x ∷ ls) (n ∷ ns) counted each l i = elim i [
  | inl same ↦ get_in labels n l (each 0 n x refl refl ∙ ap Some same)
  | inr there ↦ line_known labels ls ns (omega arith) (λ k m o at is. each (suc k) m o at is) l there
]

-- and so are those of all lines
pub labels_known : (labels : List TermLabel) (lines : List CutLine) (others : List SuiteLine) → length others ≡ length lines →
    ((k : ℕ) (line : CutLine) (other : SuiteLine) → slice_get lines k ≡ Some line → slice_get others k ≡ Some other → HasLabels labels line other) →
    (other : SuiteLine) → In other others → (l : TermLabel) → In l other.labels.items → In l labels
labels_known labels lines [] counted each other i l there = absurd i
labels_known labels [] (o ∷ others) counted each other i l there = absurd (omega arith)
labels_known labels (c ∷ lines) (o ∷ others) counted each other i l there = elim i [
  | inl same ↦
      let has : HasLabels labels c o = each 0 c o refl refl in
      line_known labels o.labels.items c.labels.items has.counted has.each l (subst (λ (x : SuiteLine). In l x.labels.items) (sym same) there)
  | inr later ↦ labels_known labels lines others (omega arith) (λ k line one at is. each (suc k) line one at is) other later l there
]
