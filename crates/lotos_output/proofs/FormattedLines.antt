-- Printed labels, and the text of a sequence of them.
use Rattle.std.proofs.Common.{◌≡◌, ℕ, ◌+◌, ◌<◌, ◌≤◌, codes, List, [], ◌∷◌, ◌++◌, get_or, length, refl, sym, subst, ap, ◌∙◌, drop, append_assoc, append-nil}
use Rattle.std.specs.List.{flat_map}
use Rattle.std.proofs.Math.ListN.{drop_of_length-le}
use Rattle.std.proofs.lemmas.Grind.{flat_map-append}
use Rattle.std.proofs.lemmas.List.{drop_more}
use Rattle.lotos_check.specs.NameLists.{Name}
use Rattle.lotos_store.specs.declared.label.Label.{Label as TermLabel}
use Rattle.lotos_terms.specs.TableView.{IsPrintedAs}
use Rattle.lotos_terms.proofs.PrintedLabels.{one_text}
use Rattle.lotos_listing.specs.Order.{Label}
use Rattle.lotos_listing.specs.Question.{ArePrinted, none_printed, more_printed}
use Rattle.lotos_output.specs.OutputLines.{IsLeft, row_text, sequence_text}

-- the labels from an index on: the one at the index, and those after it
pub left_from : (labels : List TermLabel) (i : ℕ) (k : TermLabel) → i < length labels → k ≡ get_or labels i k → drop i labels ≡ k ∷ drop (i + 1) labels
left_from labels i k below is = drop_more labels i k below ∙ ap (λ j. j ∷ drop (i + 1) labels) (sym is)

-- the texts of a list of labels: that of the first label, and those of the others
pub record AreCut (names : List Name) (k : TermLabel) (ks : List TermLabel) (s : List Label) : Type 0 where
  pub first : Label
  pub others : List Label
  pub printed : IsPrintedAs names k first
  pub all : ArePrinted names ks others
  pub joined : s ≡ first ∷ others

-- the texts of a list of labels with a first one are that of the first label and those of the others
pub cut_first : (names : List Name) (k : TermLabel) (ks : List TermLabel) (s : List Label) → ArePrinted names (k ∷ ks) s → AreCut names k ks s
cut_first names k ks _ (more_printed h hs) = record { first = _; others = _; printed = h; all = hs; joined = refl }

-- an empty list of labels has no texts
nothing_shown : (names : List Name) (s : List Label) → ArePrinted names [] s → s ≡ []
nothing_shown names _ none_printed = refl

-- the text of the empty sequence
pub none_spelled : (names : List Name) (labels : List TermLabel) (text : List ℕ) → labels ≡ [] → text ≡ codes "<empty>" →
    (s : List Label) → ArePrinted names labels s → text ≡ sequence_text s
none_spelled names labels text without written s all =
    let e = nothing_shown names s (subst (λ ls. ArePrinted names ls s) without all) in
    written ∙ sym (ap sequence_text e)

-- the first label is written
pub left_at_first : (names : List Name) (labels rest : List TermLabel) (first : TermLabel) (shown text : List ℕ) → labels ≡ first ∷ rest →
    IsPrintedAs names first shown → text ≡ shown → (s : List Label) → ArePrinted names labels s → IsLeft names rest text (sequence_text s)
left_at_first names labels rest first shown text e h written s all =
    let cut = cut_first names first rest s (subst (λ ls. ArePrinted names ls s) e all) in
    let same = written ∙ one_text names first shown cut.first h cut.printed in
    (cut.others, cut.all, ap (λ x. x ++ flat_map (λ m. 32 ∷ m) cut.others) same ∙ sym (ap sequence_text cut.joined))

-- one more label is written
pub left_behind : (names : List Name) (rest later : List TermLabel) (label : TermLabel) (text shown text' whole : List ℕ) →
    rest ≡ label ∷ later → IsPrintedAs names label shown → text' ≡ (text ++ 32 ∷ []) ++ shown → IsLeft names rest text whole →
    IsLeft names later text' whole
left_behind names rest later label text shown text' whole e h written (left, all, made) =
    let cut = cut_first names label later left (subst (λ ls. ArePrinted names ls left) e all) in
    let same = one_text names label shown cut.first h cut.printed in
    let made' : text ++ flat_map (λ m. 32 ∷ m) (cut.first ∷ cut.others) ≡ whole =
    subst (λ x. text ++ flat_map (λ m. 32 ∷ m) x ≡ whole) cut.joined made in
    let grown : text' ≡ text ++ (32 ∷ cut.first) = written ∙ append_assoc text (32 ∷ []) shown ∙ ap (λ x. text ++ (32 ∷ x)) same in
    let others = flat_map (λ m. 32 ∷ m) cut.others in
    (cut.others, cut.all, ap (λ x. x ++ others) grown ∙ append_assoc text (32 ∷ cut.first) others ∙ made')

-- a label that is left has a printed text
pub left_shown : (names : List Name) (rest later : List TermLabel) (label : TermLabel) (text whole : List ℕ) → rest ≡ label ∷ later →
    IsLeft names rest text whole → (t : List ℕ) × IsPrintedAs names label t
left_shown names rest later label text whole e (left, all, made) =
    let cut = cut_first names label later left (subst (λ ls. ArePrinted names ls left) e all) in (cut.first, cut.printed)

-- if no label is left, the text is the whole
pub left_none : (names : List Name) (rest : List TermLabel) (i : ℕ) (text whole : List ℕ) → length rest ≤ i → IsLeft names (drop i rest) text whole →
    text ≡ whole
left_none names rest i text whole passed (left, all, made) =
    let e = nothing_shown names left (subst (λ ls. ArePrinted names ls left) (drop_of_length-le rest {i = i} passed) all) in
    sym (append-nil text) ∙ subst (λ x. text ++ flat_map (λ m. 32 ∷ m) x ≡ whole) e made

-- what is made of the text so far and of each label that is left is the whole
pub left_joined : (names : List Name) (rest : List TermLabel) (text whole made : List ℕ) → IsLeft names rest text whole →
    ((s : List Label) → ArePrinted names rest s → made ≡ text ++ flat_map (λ m. 32 ∷ m) s) → made ≡ whole
left_joined names rest text whole made (left, all, is) joined = joined left all ∙ is

-- ---- a line with a mark

-- the labels of a row, with a blank after them, and one label more are a sequence as text
row_then : (s : List Label) (l : Label) → row_text s ++ l ≡ sequence_text (s ++ l ∷ [])
row_then [] l = sym (append-nil l)
row_then (a ∷ rest) l =
    let spaced : List Label → List ℕ = flat_map (λ m. 32 ∷ m) in
    append_assoc (a ++ spaced rest) (32 ∷ []) l ∙ append_assoc a (spaced rest) (32 ∷ l)
    ∙ ap (λ x. a ++ x) (ap (λ y. spaced rest ++ y) (sym (append-nil (32 ∷ l))) ∙ sym (flat_map-append (λ m. 32 ∷ m) rest (l ∷ [])))

-- ---- a line for each label

-- the line of a label
abbrev pub label_line : Label → List ℕ
label_line l = l ++ 10 ∷ []

-- the lines so far, and those of the labels that are left, are the lines of all
abbrev pub AreLinesLeft : List Name → List TermLabel → List ℕ → List Label → Type 0
AreLinesLeft names rest lines all = (left : List Label) × ArePrinted names rest left × (lines ++ flat_map label_line left ≡ flat_map label_line all)

-- one more line is written
pub line_behind : (names : List Name) (rest later : List TermLabel) (label : TermLabel) (lines shown lines' : List ℕ) (all : List Label) →
    rest ≡ label ∷ later → IsPrintedAs names label shown → lines' ≡ (lines ++ shown) ++ 10 ∷ [] → AreLinesLeft names rest lines all →
    AreLinesLeft names later lines' all
line_behind names rest later label lines shown lines' all e h written (left, printed, whole) =
    let cut = cut_first names label later left (subst (λ ls. ArePrinted names ls left) e printed) in
    let same = one_text names label shown cut.first h cut.printed in
    let whole' : lines ++ flat_map label_line (cut.first ∷ cut.others) ≡ flat_map label_line all =
    subst (λ x. lines ++ flat_map label_line x ≡ flat_map label_line all) cut.joined whole in
    let grown : lines' ≡ lines ++ label_line cut.first = written ∙ append_assoc lines shown (10 ∷ []) ∙ ap (λ x. lines ++ label_line x) same in
    let others = flat_map label_line cut.others in
    (cut.others, cut.all, ap (λ x. x ++ others) grown ∙ append_assoc lines (label_line cut.first) others ∙ whole')

-- the next label whose line is left has a printed text
pub line_shown : (names : List Name) (rest later : List TermLabel) (label : TermLabel) (lines : List ℕ) (all : List Label) → rest ≡ label ∷ later →
    AreLinesLeft names rest lines all → (t : List ℕ) × IsPrintedAs names label t
line_shown names rest later label lines all e (left, printed, whole) =
    let cut = cut_first names label later left (subst (λ ls. ArePrinted names ls left) e printed) in (cut.first, cut.printed)

-- if no label is left, the lines are those of all
pub lines_none : (names : List Name) (rest : List TermLabel) (i : ℕ) (lines : List ℕ) (all : List Label) → length rest ≤ i →
    AreLinesLeft names (drop i rest) lines all → lines ≡ flat_map label_line all
lines_none names rest i lines all passed (left, printed, whole) =
    let e = nothing_shown names left (subst (λ ls. ArePrinted names ls left) (drop_of_length-le rest {i = i} passed) printed) in
    sym (append-nil lines) ∙ subst (λ x. lines ++ flat_map label_line x ≡ flat_map label_line all) e whole
