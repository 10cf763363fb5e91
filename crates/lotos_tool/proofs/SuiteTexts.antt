-- The lines of a suite as text, and which of them are written.
use Rattle.std.proofs.Common.{◌≡◌, ◌∙◌, ◌<◌, ◌++◌, ◌+◌, ◌-◌, ℕ, zero, suc, Bool, List, [], ◌∷◌, MatchOption, None, Option, Some, ap, append-nil, arith, codes, drop, false, inl, inr, length, map, refl, slice_get, string_bytes, subst, sym, take, take-append-drop, take_all, true}
use Rattle.std.specs.Option.{option_map}
use Rattle.std.specs.declared.string.String.{String}
use Rattle.std.specs.declared.alloc.Global.{Global}
use Rattle.std.proofs.lemmas.List.{append_assoc, length-map, length-take, map-append, take_more}
use Rattle.std.proofs.lemmas.Grind.{flat_map-append}
use Rattle.std.proofs.lemmas.Option.{get_or_from_slice_get, slice_get_within}
use Rattle.lotos_check.specs.NameLists.{In, Name}
use Rattle.lotos_check.proofs.JoinedLists.{in_front}
use Rattle.lotos_check.proofs.ListIndices.{in_get}
use Rattle.lotos_store.specs.declared.label.Label.{Label as TermLabel}
use Rattle.lotos_terms.specs.TableView.{IsPrintedAs}
use Rattle.lotos_listing.specs.Lookups.{text_of}
use Rattle.lotos_listing.specs.Order.{After, Label}
use Rattle.lotos_listing.specs.Question.{ArePrinted}
use Rattle.lotos_listing.specs.Question.ArePrinted.{more_printed, none_printed}
use Rattle.lotos_listing.proofs.ListingFronts.{after_then}
use Rattle.lotos_suite.specs.SuitePrefixes.{after, line_of, refused_from}
use Rattle.lotos_suite.specs.SuiteResults.{returned_line, returned_lines}
use Rattle.lotos_suite.specs.Suites.{Line, cannot, labels_of}
use Rattle.lotos_suite.specs.declared.suite.SuiteLine.{SuiteLine}
use Rattle.lotos_suite.proofs.LeafLines.{line_labels}
use Rattle.lotos_output.specs.OutputLines.{sequence_text}
use Rattle.lotos_tool.specs.ListingOutcome.{IsBelowLimit, last_or}
use Rattle.lotos_tool.specs.ListingParts.{is_at_limit}
use Rattle.lotos_tool.specs.SuiteOutcome.{AreAfter, IsLimitedText, IsRestText, signed_lines, signed_text}
use Rattle.lotos_tool.specs.SuiteParts.{AreInOrder, HavePrintedLabels, sign_text, up_to}

-- ---- one line

-- a line of which the last label is refused has a label before which nothing is refused
refused_form : (x : Label) (u : List Label) → (s : List Label) × (l : Label) × (refused_from x u ≡ cannot s l)
refused_form x [] = ([], x, refl)
refused_form x (y ∷ u) = let (s, l, e) = refused_form y u in (x ∷ s, l, ap (after x) e)

-- its text
refused_text : (x : Label) (u : List Label) → signed_text (refused_from x u) ≡ codes "- " ++ sequence_text (x ∷ u)
refused_text x u =
    let (s, l, e) = refused_form x u in
    let labels : s ++ l ∷ [] ≡ x ∷ u = sym (ap labels_of e) ∙ line_labels (x ∷ u) true in
    ap signed_text e ∙ ap (λ z. codes "- " ++ sequence_text z) labels

-- the sign and the labels are the text of the line
pub sign_shown : (names : List Name) (labels : List TermLabel) (refused : Bool) →
    sign_text labels refused ++ sequence_text (map (text_of names) labels) ≡ signed_text (line_of (map (text_of names) labels) refused)
sign_shown names [] refused = refl
sign_shown names (l ∷ labels) false = refl
sign_shown names (l ∷ labels) true = sym (refused_text (text_of names l) (map (text_of names) labels))

-- labels with printed texts are printed as these
all_printed : (names : List Name) (labels : List TermLabel) → ((l : TermLabel) → In l labels → IsPrintedAs names l (text_of names l)) →
    ArePrinted names labels (map (text_of names) labels)
all_printed names [] printed = none_printed
all_printed names (l ∷ labels) printed = more_printed (printed l (inl refl)) (all_printed names labels (λ k i. printed k (inr i)))

-- so are those of a line
pub line_printed : (names : List Name) (line : SuiteLine) (lines : List SuiteLine) → HavePrintedLabels names lines → In line lines →
    ArePrinted names line.labels.items (map (text_of names) line.labels.items)
line_printed names line lines printed there = all_printed names line.labels.items (printed line there)

-- a line of a list has printed labels alone
pub alone_printed : (names : List Name) (line : SuiteLine) (lines : List SuiteLine) → HavePrintedLabels names lines → In line lines →
    HavePrintedLabels names (line ∷ [])
alone_printed names line lines printed there other (inl same) l i =
    subst (λ (x : SuiteLine). In l x.labels.items → IsPrintedAs names l (text_of names l)) same (printed line there l) i
alone_printed names line lines printed there other (inr none) l i = absurd none

-- an item of the first so many is one of all
in_up_to : {X : Type 0} (limit : Option ℕ) (xs : List X) (x : X) → In x (up_to limit xs) → In x xs
in_up_to None xs x i = i
in_up_to (Some n) xs x i = subst (In x) (take-append-drop n xs) (in_front x (take n xs) (drop n xs) i)

-- what is written of a part of the lines has printed labels too
pub part_printed : (names : List Name) (lines later : List SuiteLine) (limit : Option ℕ) → HavePrintedLabels names lines →
    ((line : SuiteLine) → In line later → In line lines) → HavePrintedLabels names (up_to limit later)
part_printed names lines later limit printed part line i = printed line (part line (in_up_to limit later line i))

-- one line more after the first so many
one_more : (lines : List SuiteLine) (k : ℕ) (line : SuiteLine) → slice_get lines k ≡ Some line → take (k + 1) lines ≡ take k lines ++ line ∷ []
one_more lines k line at =
    take_more lines k line (slice_get_within lines k line at) ∙ ap (λ x. take k lines ++ x ∷ []) (get_or_from_slice_get lines k line line at)

-- the text of the lines before the index, with that of the line there
pub one_more_line : (names : List Name) (lines : List SuiteLine) (k : ℕ) (line : SuiteLine) (old new : List ℕ) → slice_get lines k ≡ Some line →
    old ≡ signed_lines (returned_lines names (take k lines)) → new ≡ old ++ signed_text (returned_line names line) ++ 10 ∷ [] →
    new ≡ signed_lines (returned_lines names (take (k + 1) lines))
one_more_line names lines k line old new at before grown =
    let shown : List ℕ = signed_text (returned_line names line) ++ 10 ∷ [] in
    let parts : returned_lines names (take (k + 1) lines) ≡ returned_lines names (take k lines) ++ returned_line names line ∷ [] =
    ap (returned_lines names) (one_more lines k line at) ∙ map-append (returned_line names) (take k lines) (line ∷ []) in
    let one : signed_lines (returned_line names line ∷ []) ≡ shown = append-nil shown in
    grown ∙ append_assoc old (signed_text (returned_line names line)) (10 ∷ []) ∙ ap (λ z. z ++ shown) before
    ∙ ap (λ z. signed_lines (returned_lines names (take k lines)) ++ z) (sym one)
    ∙ sym (flat_map-append (λ l. signed_text l ++ 10 ∷ []) (returned_lines names (take k lines)) (returned_line names line ∷ [])) ∙ ap signed_lines (sym parts)

-- ---- the lines after the mark

-- lines that come before the first one after the mark, and those from it on
pub after_split : (names : List Name) (mark : Option (List Label)) (lines : List SuiteLine) (n : ℕ) → AreInOrder (returned_lines names lines) →
    ((k : ℕ) (line : SuiteLine) → k < n → slice_get lines k ≡ Some line → After mark (map (text_of names) line.labels.items) → ⊥) →
    ((line : SuiteLine) → slice_get lines n ≡ Some line → After mark (map (text_of names) line.labels.items)) →
    AreAfter mark (returned_lines names lines) (returned_lines names (drop n lines))
after_split names mark [] zero ordered earlier first =
    record { earlier = []; parts = refl; not_after = λ line i. absurd i; after = λ line i. absurd i }
after_split names mark [] (suc n) ordered earlier first =
    record { earlier = []; parts = refl; not_after = λ line i. absurd i; after = λ line i. absurd i }
after_split names mark (l ∷ lines) zero ordered earlier first = record {
  earlier = [];
  parts = refl;
  not_after = λ line i. absurd i;
  after = λ line i. elim i [
    | inl same ↦ subst (λ x. After mark (labels_of x)) same
        (subst (After mark) (sym (line_labels (map (text_of names) l.labels.items) l.is_refused)) (first l refl))
    | inr there ↦
        let (k, at) = in_get (returned_lines names lines) line there in
        let begins = subst (After mark) (sym (line_labels (map (text_of names) l.labels.items) l.is_refused)) (first l refl) in
        after_then mark (labels_of (returned_line names l)) (labels_of line) begins
        (ordered 0 (suc k) (returned_line names l) line (omega arith) refl at)
  ];
}
after_split names mark (l ∷ lines) (suc n) ordered earlier first =
    let rest = after_split names mark lines n (λ j k a b less at is. ordered (suc j) (suc k) a b (omega arith) at is)
    (λ k line less at. earlier (suc k) line (omega arith) at) first in record {
      earlier = returned_line names l ∷ rest.earlier;
      parts = ap (λ z. returned_line names l ∷ z) rest.parts;
      not_after = λ line i. elim i [
        | inl same ↦ λ late. earlier 0 l (omega arith) refl
            (subst (After mark) (line_labels (map (text_of names) l.labels.items) l.is_refused) (subst (λ x. After mark (labels_of x)) (sym same) late))
        | inr there ↦ rest.not_after line there
      ];
      after = rest.after;
    }

-- ---- the limit

-- the last item that is read is the last one
last_of : {X : Type 0} (before : Option X) (xs : List X) (x : X) → slice_get xs (length xs - 1) ≡ Some x → last_or before xs ≡ Some x
last_of before [] x e = cc
last_of before (y ∷ []) x e = e
last_of before (y ∷ z ∷ xs) x e =
    let here : length (y ∷ z ∷ xs) - 1 ≡ suc (length xs) = omega arith in
    let there : length xs ≡ length (z ∷ xs) - 1 = omega arith in
    last_of (Some y) (z ∷ xs) x (subst (λ n. slice_get (z ∷ xs) n ≡ Some x) there (subst (λ n. slice_get (y ∷ z ∷ xs) n ≡ Some x) here e))

-- of lines too
pub last_is : (lines : List SuiteLine) (line : SuiteLine) → slice_get lines (length lines - 1) ≡ Some line → last_or None lines ≡ Some line
last_is lines line e = last_of None lines line e

-- the text of the last of some lines
last_shown : (names : List Name) (before : Option SuiteLine) (lines : List SuiteLine) →
    option_map (λ line. signed_text (returned_line names line)) (last_or before lines)
    ≡ option_map signed_text (last_or (option_map (returned_line names) before) (returned_lines names lines))
last_shown names None [] = refl
last_shown names (Some line) [] = refl
last_shown names before (l ∷ lines) = last_shown names (Some l) lines

-- what is known of the last line: the limit is not reached, or it is
abbrev pub IsLastAt : List Name → List SuiteLine → Option ℕ → Option (String Global) → Type 0
IsLastAt names written limit last = MatchOption last (is_at_limit (length written) limit ≡ false)
    (λ text. (is_at_limit (length written) limit ≡ true) × (Some (string_bytes text)
    ≡ option_map (λ line. signed_text (returned_line names line)) (last_or None written)))

module _ (names : List Name) (mark : Option (List Label)) (all : List Line) (later : List SuiteLine) (are : AreAfter mark all (returned_lines names later))
    (bytes : List ℕ) (count : ℕ) where
  -- the text of all lines after the mark
  rest_text : (limit : Option ℕ) → IsBelowLimit (length later) limit → bytes ≡ signed_lines (returned_lines names later) → count ≡ length later →
      IsRestText mark limit all count bytes
  rest_text limit below text counted =
      let long = length-map later (returned_line names) in record {
        later = returned_lines names later;
        are = are;
        below = subst (λ n. IsBelowLimit n limit) (sym long) below;
        counted = counted ∙ sym long;
        text = text;
      }

  -- the text of what is written, by whether the limit is reached
  pub made_of : (limit : Option ℕ) (last : Option (String Global)) → IsLastAt names (up_to limit later) limit last →
      bytes ≡ signed_lines (returned_lines names (up_to limit later)) → count ≡ length (up_to limit later) →
      MatchOption last (IsRestText mark limit all count bytes) (λ text. IsLimitedText mark limit all (Some text) bytes)
  made_of None None at text counted = rest_text None tt text counted
  made_of None (Some t) at text counted = absurd (let e : false ≡ true = at.0 in cc)
  made_of (Some n) None at text counted =
      let shorter : length later < n = grind (arith, length-take n later) in
      let whole : take n later ≡ later = take_all n later (omega arith) in
      rest_text (Some n) shorter (subst (λ xs. bytes ≡ signed_lines (returned_lines names xs)) whole text) (subst (λ xs. count ≡ length xs) whole counted)
  made_of (Some n) (Some t) at text counted =
      let reached : n ≡ length (take n later) = grind arith in
      let parts : returned_lines names later ≡ returned_lines names (take n later) ++ returned_lines names (drop n later) =
      ap (returned_lines names) (sym (take-append-drop n later)) ∙ map-append (returned_line names) (take n later) (drop n later) in record {
        written = returned_lines names (take n later);
        left = returned_lines names (drop n later);
        are = subst (AreAfter mark all) parts are;
        reached = ap Some (reached ∙ sym (length-map (take n later) (returned_line names)));
        last_is = at.1 ∙ last_shown names None (take n later);
        text = text;
      }
