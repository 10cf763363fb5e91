-- The part of a text that another sequence begins with too.
use Rattle.std.proofs.Common.{◌≡◌, ◌∙◌, ℕ, ◌+◌, ◌<◌, ◌≤◌, List, [], ◌∷◌, ◌++◌, IsUtf8, ap, arith, drop, length, refl, subst, sym, take}
use Rattle.std.specs.List.{flat_map}
use Rattle.std.proofs.lemmas.List.{length-append, length-drop, length-take-le, take_at}
use Rattle.std.proofs.lemmas.Str.{IsUtf8-append, IsUtf8-from_ascii}
use Rattle.std.proofs.lemmas.Str.Ascii.{IsAscii-cons, IsAscii-nil}
use Rattle.lotos_check.specs.NameLists.{Name}
use Rattle.lotos_store.specs.declared.label.Label.{Label as TermLabel}
use Rattle.lotos_terms.specs.TableView.{IsPrintedAs}
use Rattle.lotos_listing.specs.Order.{Label}
use Rattle.lotos_listing.specs.Question.{ArePrinted}
use Rattle.lotos_output.specs.OutputLines.{HasText, IsLabelOfBoth, IsLeft, sequence_text}
use Rattle.lotos_output.proofs.FormattedLines.{left_at_first, left_behind, left_shown}

-- an index at which a list has a label is one of the list
label_within : (labels : List TermLabel) (i : ℕ) (label : TermLabel) (later : List TermLabel) → drop i labels ≡ label ∷ later → i < length labels
label_within labels i label later is =
    let size = ap length is in
    let left = length-drop i labels in
    omega arith

-- the text up to `end` is that of the first `count` labels, which both lists have
pub record IsPartOfBoth (names : List Name) (known labels : List TermLabel) (text : List ℕ) (count end : ℕ) : Type 0 where
  pub counted : count ≤ length labels
  pub within : end ≤ length text
  pub utf8 : IsUtf8 (take end text)
  pub before : IsLeft names (drop count known) (take end text) text
  pub now : (s : List Label) → ArePrinted names labels s → IsLeft names (drop count labels) (take end text) (sequence_text s)

-- a text that others are left of begins the whole
begins_whole : (names : List Name) (rest : List TermLabel) (part text : List ℕ) → IsLeft names rest part text →
    (take (length part) text ≡ part) × (length part ≤ length text)
begins_whole names rest part text (left, all, is) =
    let others = flat_map (λ m. 32 ∷ m) left in
    let size = length-append part others in
    let whole = ap length is in
    (ap (take (length part)) (sym is) ∙ take_at part others (length part) refl, omega arith)

-- the part is the text of the first label
pub part_first : (names : List Name) (known labels : List TermLabel) (text : List ℕ) (first : TermLabel) (shown : List ℕ) →
    IsLabelOfBoth known labels 0 first → HasText names known text → IsPrintedAs names first shown → IsUtf8 shown →
    IsPartOfBoth names known labels text 1 (length shown)
part_first names known labels text first shown both has h utf8 =
    let some : 0 < length known = label_within known 0 first (drop 1 known) both.before in
    let left = left_at_first names known (drop 1 known) first shown shown both.before h refl has.sequence has.printed in
    let before = subst (IsLeft names (drop 1 known) shown) (sym (has.spelled some)) left in
    let (same, within) = begins_whole names (drop 1 known) shown text before in
    record {
      counted = label_within labels 0 first (drop 1 labels) both.now;
      within = within;
      utf8 = subst IsUtf8 (sym same) utf8;
      before = subst (λ p. IsLeft names (drop 1 known) p text) (sym same) before;
      now = λ s all. left_at_first names labels (drop 1 labels) first shown (take (length shown) text) both.now h same s all;
    }

-- one more label is in the part
pub part_more : (names : List Name) (known labels : List TermLabel) (text : List ℕ) (count end : ℕ) (label : TermLabel) (shown : List ℕ) →
    IsLabelOfBoth known labels count label → IsPrintedAs names label shown → IsUtf8 shown → IsPartOfBoth names known labels text count end →
    IsPartOfBoth names known labels text (count + 1) (end + (1 + length shown))
part_more names known labels text count end label shown both h utf8 part =
    let old = take end text in
    let new = (old ++ 32 ∷ []) ++ shown in
    let before = left_behind names (drop count known) (drop (count + 1) known) label old shown new text both.before h refl part.before in
    let (same, within) = begins_whole names (drop (count + 1) known) new text before in
    let old_size = length-take-le end text part.within in
    let blank_size = length-append old (32 ∷ []) in
    let new_size = length-append (old ++ 32 ∷ []) shown in
    let size : length new ≡ end + (1 + length shown) = omega arith in
    let same' : take (end + (1 + length shown)) text ≡ new = ap (λ n. take n text) (sym size) ∙ same in
    let blank : IsUtf8 (32 ∷ []) = IsUtf8-from_ascii _ (IsAscii-cons 32 [] (omega arith) IsAscii-nil) in
    let below = label_within labels count label (drop (count + 1) labels) both.now in
    record {
      counted = omega arith;
      within = subst (λ n. n ≤ length text) size within;
      utf8 = subst IsUtf8 (sym same') (IsUtf8-append _ _ (IsUtf8-append _ _ part.utf8 blank) utf8);
      before = subst (λ p. IsLeft names (drop (count + 1) known) p text) (sym same') before;
      now = λ s all. left_behind names (drop count labels) (drop (count + 1) labels) label old shown (take (end + (1 + length shown)) text) (sequence_text s)
          both.now h same' (part.now s all);
    }

-- the label after the part has a printed text
pub part_shown : (names : List Name) (known labels : List TermLabel) (text : List ℕ) (count end : ℕ) (label : TermLabel) →
    IsLabelOfBoth known labels count label → IsPartOfBoth names known labels text count end → (t : List ℕ) × IsPrintedAs names label t
part_shown names known labels text count end label both part =
    left_shown names (drop count known) (drop (count + 1) known) label (take end text) text both.before part.before
