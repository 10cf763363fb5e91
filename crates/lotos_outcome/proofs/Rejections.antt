-- What rejections of the parts of a question mean.
use Rattle.std.proofs.Common.{◌≡◌, ℕ, ◌+◌, Bool, List, [], None, Option, Some, Result, Ok, Err, false, ap, arith, refl, string_bytes, subst, sym}
use Rattle.std.specs.Prelude.{IsErrAnd}
use Rattle.std.proofs.KnownBytes.{Consumes-nil}
use Rattle.std.specs.declared.string.String.{String}
use Rattle.std.specs.declared.alloc.Global.{Global}
use Rattle.lotos_text.specs.Grammar.{Spelling}
use Rattle.lotos_text.specs.Limits.{max_text_length}
use Rattle.lotos_text.specs.OffsetsInside.{text_offset}
use Rattle.lotos_text.specs.Position.{IsPosition}
use Rattle.lotos_text.specs.declared.fault.TextFault.{TextFault}
use Rattle.lotos_check.specs.AcceptedText.{IsCheckRejection, IsTextRejection}
use Rattle.lotos_check.specs.FaultOffsets.{offset_of}
use Rattle.lotos_check.specs.NameLists.{Name}
use Rattle.lotos_check.specs.declared.fault.CheckFault.{CheckFault}
use Rattle.lotos_pattern.specs.PatternFaults.{IsCause, SpellsNone}
use Rattle.lotos_pattern.specs.Spelling.{NamesEach}
use Rattle.lotos_pattern.specs.declared.fault.PatternFault.{PatternFault}
use Rattle.lotos_pattern.specs.declared.fault.PatternFault.TheVariants as pattern
use Rattle.lotos_listing.specs.Order.{Label}
use Rattle.lotos_listing.specs.Marks.{IsMarkFault, MarkOf}
use Rattle.lotos_listing.specs.declared.fault.MarkFault.{MarkFault}
use Rattle.lotos_listing.specs.declared.fault.MarkFault.TheVariants as mark_fault
use Rattle.lotos_pattern.specs.LabelWords.{IsWordCause}
use Rattle.lotos_pattern.specs.declared.label_words.WordFault.{WordFault}
use Rattle.lotos_pattern.specs.declared.label_words.WordFault.TheVariants as word
use Rattle.lotos_device.specs.DeviceStates.{SourceState}
use Rattle.lotos_device.specs.TextInput.{ReadsAll, TakesWithin}
use Rattle.lotos_outcome.specs.Outcomes.{is_unreadable}
use Rattle.lotos_outcome.specs.declared.refusal.Refusal.{Refusal}
use Rattle.lotos_outcome.specs.declared.refusal.Refusal.TheVariants as refusal
use Rattle.lotos_command.specs.declared.command.Interface.{Interface}
use Rattle.lotos_outcome.specs.RefusalCauses.{IsAskedRefusalBy, IsGateRefusal, IsInterfaceRefusalBy, IsMarkRefusal, IsMarkRefusalBy, IsPatternRefusal, IsRefusalOf}
use Rattle.lotos_outcome.specs.RefusalCauses.{IsPositionOf, IsUnreadInput, IsWordRefusal}
use Rattle.lotos_outcome.specs.RefusalCauses.IsAskedRefusalBy.{of_interface as asked_interface, of_text as asked_text}
use Rattle.lotos_outcome.specs.RefusalCauses.IsInputRefusalBy.{of_text as input_text, unread}
use Rattle.lotos_outcome.specs.RefusalCauses.IsInterfaceRefusalBy.{of_input, of_interface}
use Rattle.lotos_outcome.specs.RefusalCauses.IsGateRefusal.{unknown_gate}
use Rattle.lotos_outcome.specs.RefusalCauses.IsMarkRefusalBy.{no_line}
use Rattle.lotos_outcome.specs.RefusalCauses.IsPatternRefusal.{spells_no_pattern}
use Rattle.lotos_outcome.specs.RefusalCauses.IsRefusalOf.{breaks_rule, spells_none}
use Rattle.lotos_outcome.specs.RefusalCauses.IsWordRefusal.{internal, no_label}
use Rattle.lotos_outcome.specs.Rejections.{IsRejectionBy, is_input_failure, is_reader_failure, mark_rejection, pattern_rejection, word_rejection}
use Rattle.lotos_outcome.specs.declared.rejection.Rejection.{Rejection}
use Rattle.lotos_outcome.specs.declared.rejection.Rejection.TheVariants.{Refused, Memory}

-- what is refused for one reason is refused for any that follows from it
pub rejects_more : (X Y : Refusal → Type 0) (u : Rejection) → ((cause : Refusal) → X cause → Y cause) → IsRejectionBy X u → IsRejectionBy Y u
rejects_more X Y (Refused cause) more h = more cause h
rejects_more X Y Memory more h = tt

-- a rejection for reasons that are none of the reader is no failure of the reader
pub was_read : (X : Refusal → Type 0) (u : Rejection) → ((cause : Refusal) → X cause → is_unreadable cause ≡ false) → IsRejectionBy X u →
    is_reader_failure u ≡ false
was_read X (Refused cause) read h = read cause h
was_read X Memory read h = refl

-- a rejection that is passed on, and is none of the reader, is none where it is passed on to
pub still_read : {T : Type 0} (r : Result T Rejection) (u : Rejection) → IsErrAnd r (λ v. v ≡ u) → is_reader_failure u ≡ false → is_input_failure r ≡ false
still_read (Ok value) u same h = refl
still_read (Err v) u same h = subst (λ w. is_reader_failure w ≡ false) (sym same) h

-- nothing was taken from a source that was not read
pub nothing_taken : (from : SourceState) → TakesWithin from from (max_text_length + 1)
nothing_taken from = record { taken = ([], omega arith, Consumes-nil from.remaining); given = omega arith }

-- ---- which refusals are none of the reader

-- those of a text
pub text_was_read : {V S : Type 0} {Spells : List ℕ → Spelling V} {Accepts : V → S → Type 0} {Breaks : V → CheckFault → Type 0} (text : List ℕ)
    (cause : Refusal) → IsRefusalOf Spells Accepts Breaks text cause → is_unreadable cause ≡ false
text_was_read text _ (spells_none fault position h) = refl
text_was_read text _ (breaks_rule fault line column h) = refl

-- those of the words of a pattern
pub pattern_was_read : (strong : Bool) (words : List (List ℕ)) (cause : Refusal) → IsPatternRefusal strong words cause → is_unreadable cause ≡ false
pattern_was_read strong words _ (spells_no_pattern fault h memory never) = refl

-- those of the line of a mark
pub mark_was_read : (strong : Bool) (line : Option (String Global)) (cause : Refusal) → IsMarkRefusal strong line cause → is_unreadable cause ≡ false
mark_was_read strong line _ (no_line text given never) = refl

-- those of the gates that words name
pub gate_was_read : (gates : List Name) (words : List (List ℕ)) (cause : Refusal) → IsGateRefusal gates words cause → is_unreadable cause ≡ false
gate_was_read gates words _ (unknown_gate n h) = refl

-- those of the words of a sequence
pub word_was_read : (f : WordFault) → is_reader_failure (word_rejection f) ≡ false
word_was_read (word.NoLabel n) = refl
word_was_read (word.Internal n) = refl

-- ---- the rejections for faults

module _ {V S : Type 0} (Spells : List ℕ → Spelling V) (Accepts : V → S → Type 0) (Breaks : V → CheckFault → Type 0) (text : List ℕ) where
  -- a fault of a text that spells nothing, at its position
  pub text_rejected : (fault : TextFault) (position : Option (ℕ × ℕ)) → IsTextRejection Spells Accepts text fault →
      IsPositionOf text (text_offset fault) position → IsRefusalOf Spells Accepts Breaks text (refusal.Text fault position)
  text_rejected fault position h placed =
      spells_none fault position (record { cause = h.cause; no_memory = h.no_memory; placed = placed; never = h.never })

  -- a fault of what a text spells, at its position
  pub check_rejected : (fault : CheckFault) (line column : ℕ) → IsCheckRejection Spells Accepts Breaks text fault →
      IsPositionOf text (offset_of fault) (Some (line, column)) → IsRefusalOf Spells Accepts Breaks text (refusal.Check fault line column)
  check_rejected fault line column h placed = by (offset_of fault) refl placed
    where
      by : (o : Option ℕ) → offset_of fault ≡ o → IsPositionOf text o (Some (line, column)) →
          IsRefusalOf Spells Accepts Breaks text (refusal.Check fault line column)
      by None e same = cc
      by (Some at) e (l, k, same, is) =
          let pair : (line, column) ≡ (l, k) = cc in
          let lines : l ≡ line = ap (λ (p : ℕ × ℕ). p.0) (sym pair) in
          let columns : k ≡ column = ap (λ (p : ℕ × ℕ). p.1) (sym pair) in
          breaks_rule fault line column (record {
            whole = h.whole;
            at = at;
            spells = h.spelled;
            cause = h.cause;
            located = e;
            placed = subst (λ n. IsPosition text at n column) lines (subst (λ n. IsPosition text at l n) columns is);
            never = h.never;
          })

-- a fault of the words of a pattern
pub pattern_rejected_for : (strong : Bool) (words : List (List ℕ)) (fault : PatternFault) → IsCause strong words fault → SpellsNone strong words fault →
    IsRejectionBy (IsPatternRefusal strong words) (pattern_rejection fault)
pattern_rejected_for strong words (pattern.E41 n) cause none = spells_no_pattern (pattern.E41 n) cause refl none
pattern_rejected_for strong words (pattern.E42 n) cause none = spells_no_pattern (pattern.E42 n) cause refl none
pattern_rejected_for strong words (pattern.E43 n) cause none = spells_no_pattern (pattern.E43 n) cause refl none
pattern_rejected_for strong words (pattern.E44 n) cause none = spells_no_pattern (pattern.E44 n) cause refl none
pattern_rejected_for strong words (pattern.E45 n) cause none = spells_no_pattern (pattern.E45 n) cause refl none
pattern_rejected_for strong words (pattern.E48 n) cause none = spells_no_pattern (pattern.E48 n) cause refl none
pattern_rejected_for strong words (pattern.E50 n) cause none = spells_no_pattern (pattern.E50 n) cause refl none
pattern_rejected_for strong words (pattern.E51 n) cause none = spells_no_pattern (pattern.E51 n) cause refl none
pattern_rejected_for strong words (pattern.E99 e) cause none = tt

-- a fault of a line, as a mark, where `bare` is the part of a line that has its sequence
pub mark_rejected_for : (bare : List ℕ → List ℕ) (strong : Bool) (line : String Global) (fault : MarkFault) →
    IsMarkFault strong (bare (string_bytes line)) fault →
    IsRejectionBy (IsMarkRefusalBy (λ text s. MarkOf strong (bare text) s) (Some line)) (mark_rejection fault)
mark_rejected_for bare strong line mark_fault.E46 h = no_line line refl h
mark_rejected_for bare strong line (mark_fault.E99 e) h = tt

-- a fault of the words of a sequence
pub word_rejected_for : (strong : Bool) (words : List (List ℕ)) (f : WordFault) → IsWordCause strong words f →
    ((s : List Label) → NamesEach strong words s → ⊥) → IsRejectionBy (IsWordRefusal strong words) (word_rejection f)
word_rejected_for strong words (word.NoLabel n) cause none = no_label n cause none
word_rejected_for strong words (word.Internal n) cause none = internal n cause none

-- ---- from a text to the bytes that a reader had left

module _ {S : Type 0} (Refuses : List ℕ → Refusal → Type 0) (Accepts : List ℕ → S → Type 0) (gates : S → List Name) (interface : Interface)
    (left left' : Option (List ℕ)) where
  -- if all that the reader had left is the text, what is refused of it and an interface is refused of the input
  pub asked_refused : (text : List ℕ) (cause : Refusal) → ReadsAll left left' max_text_length text →
      IsAskedRefusalBy Refuses Accepts gates interface text cause → IsInterfaceRefusalBy Refuses Accepts gates interface left left' cause
  asked_refused text cause read (asked_text h) = of_input (input_text text read h)
  asked_refused text cause read (asked_interface own accepted h) = of_interface own (record { text = text; read = read; accepted = accepted }) h

  -- what is refused of input that was not read as a text
  pub unread_refused : (cause : Refusal) → IsUnreadInput left left' cause → IsInterfaceRefusalBy Refuses Accepts gates interface left left' cause
  unread_refused cause h = of_input (unread h)
