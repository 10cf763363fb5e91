-- Ends of calls, whatever is asked and answered.
use Rattle.std.proofs.Common.{◌≡◌, ◌∙◌, ℕ, ◌+◌, Bool, true, false, List, Option, ap, inl, inr, refl, subst, sym}
use Rattle.std.specs.Prelude.{◌==◌, if◌then◌else◌}
use Rattle.std.proofs.KnownBytes.{Keeps-refl}
use Rattle.lotos_text.specs.Limits.{max_text_length}
use Rattle.lotos_device.specs.ByteOutput.{IsBeginningOf}
use Rattle.lotos_device.specs.DeviceStates.{SinkState, SourceState}
use Rattle.lotos_device.specs.TextInput.{TakesWithin}
use Rattle.lotos_outcome.specs.Calls.{Answered, Answering, Call, EndsAs, IsWritten, Meaning, Ran}
use Rattle.lotos_outcome.specs.Outcomes.{is_unread, is_unreadable, is_unwritten, status_of}
use Rattle.lotos_outcome.specs.declared.outcome.Ended.{Ended}
use Rattle.lotos_outcome.specs.declared.outcome.Ended.TheVariants.{Done, Refused, Stopped}
use Rattle.lotos_outcome.specs.declared.outcome.Stop.TheVariants.{Limit, Lines, Memory, States, Terms, Write}
use Rattle.lotos_outcome.specs.declared.refusal.Refusal.{Refusal}
use Rattle.lotos_output.specs.WholeOutput.{EndsWhole}
use Rattle.lotos_output.specs.WholeOutput.EndsWhole.{broken_off, done}
use Rattle.lotos_outcome.specs.Rejections.{IsRejectionBy, end_of, is_reader_failure}
use Rattle.lotos_outcome.specs.declared.rejection.Rejection.{Rejection}
use Rattle.lotos_outcome.specs.declared.rejection.Rejection.TheVariants as rejection

-- what was written for a question was written for any question that is asked if that one is
written_more : {Q : Type 0} (A B : Q → Type 0) (Said : Q → List ℕ → Type 0) (got got' : Option (List ℕ)) → ((q : Q) → A q → B q) →
    IsWritten A Said got got' → IsWritten B Said got got'
written_more A B Said got got' more w =
    record { question = w.question; bytes = w.bytes; asked = more w.question w.asked; said = w.said; written = w.written }

module _ {F P : Type 0} (a : Answering F P) where
  -- the end of a call means the same if more is refused and more is asked
  pub ends_as_more : (R T : Refusal → Type 0) (A B : a.Question → Type 0) (got got' : Option (List ℕ)) (ended : Ended F P) →
      ((cause : Refusal) → R cause → T cause) → ((q : a.Question) → A q → B q) → EndsAs a R A got got' ended → EndsAs a T B got got' ended
  ends_as_more R T A B got got' (Done found) refused more h = written_more A B _ got got' more h
  ends_as_more R T A B got got' (Refused cause) refused more h = (refused cause h.0, h.1)
  ends_as_more R T A B got got' (Stopped Limit place) refused more h = written_more A B _ got got' more h
  ends_as_more R T A B got got' (Stopped Terms place) refused more h = written_more A B _ got got' more h
  ends_as_more R T A B got got' (Stopped States place) refused more h = written_more A B _ got got' more h
  ends_as_more R T A B got got' (Stopped Lines place) refused more h = written_more A B _ got got' more h
  ends_as_more R T A B got got' (Stopped Memory place) refused more h =
      elim h [ inl none ↦ inl none | inr w ↦ inr (written_more A B _ got got' more w) ]
  ends_as_more R T A B got got' (Stopped Write place) refused more h = written_more A B _ got got' more h

  -- so does that of a call that is not refused
  pub ends_more : (T : Refusal → Type 0) (A B : a.Question → Type 0) (got got' : Option (List ℕ)) (ended : Ended F P) → ((q : a.Question) → A q → B q) →
      Answered a A got got' ended → EndsAs a T B got got' ended
  ends_more T A B got got' ended more h = ends_as_more (λ cause. ⊥) T A B got got' ended (λ cause none. absurd none) more h

  -- it is no failure of the reader if no refusal is
  pub ends_read : (R : Refusal → Type 0) (A : a.Question → Type 0) (got got' : Option (List ℕ)) (ended : Ended F P) →
      ((cause : Refusal) → R cause → is_unreadable cause ≡ false) → EndsAs a R A got got' ended → is_unread ended ≡ false
  ends_read R A got got' (Done found) read h = refl
  ends_read R A got got' (Refused cause) read h = read cause h.0
  ends_read R A got got' (Stopped cause place) read h = refl

  -- all at once was written, or a beginning of it
  pub whole_ends : (A : a.Question → Type 0) (q : a.Question) (bytes : List ℕ) (found : F) (place : P) (got got' : Option (List ℕ)) (ended : Ended F P) →
      A q → a.Answers q found bytes → ((part : List ℕ) → IsBeginningOf bytes part → a.Stops q Write place part) →
      EndsWhole bytes found place got got' ended → Answered a A got got' ended
  whole_ends A q bytes found place got got' _ asked all part (done written) =
      record { question = q; bytes = bytes; asked = asked; said = all; written = written }
  whole_ends A q bytes found place got got' _ asked all part (broken_off begun) = record {
    question = q;
    bytes = begun.part;
    asked = asked;
    said = part begun.part (record { rest = begun.rest; whole = begun.whole });
    written = begun.written;
  }

-- a rejection is an end with nothing written
pub rejected_ends : {F P : Type 0} (a : Answering F P) (R : Refusal → Type 0) (A : a.Question → Type 0) (got : Option (List ℕ)) (u : Rejection) →
    IsRejectionBy R u → EndsAs a R A got got (end_of u a.nowhere)
rejected_ends a R A got (rejection.Refused cause) h = (h, Keeps-refl got)
rejected_ends a R A got rejection.Memory h = inl (refl, Keeps-refl got)

-- the reader failed exactly if the outcome says so
pub rejected_read : {P : Type 0} (F : Type 0) (u : Rejection) (place : P) → is_reader_failure u ≡ is_unread {F = F} (end_of u place)
rejected_read F (rejection.Refused cause) place = refl
rejected_read F rejection.Memory place = refl

-- a rejection is no failure of the writer
pub rejected_written : {P : Type 0} (F : Type 0) (u : Rejection) (place : P) → is_unwritten {F = F} (end_of u place) ≡ false
rejected_written F (rejection.Refused cause) place = refl
rejected_written F rejection.Memory place = refl

module _ {F P : Type 0} (m : Meaning F P) (from from' : SourceState) where
  -- a call whose parts were read, and which was answered
  pub call_answered : (A : m.answering.Question → Type 0) (to to' : SinkState) (ended : Ended F P) →
      ((q : m.answering.Question) → A q → m.Reads from.remaining from'.remaining q) → TakesWithin from from' (max_text_length + 1) →
      from'.has_failed ≡ false → Answered m.answering A to.written to'.written ended → to'.has_failed ≡ is_unwritten ended → Call m from from' to to' ended
  call_answered A to to' ended reads takes read ends output = record {
    ends = ends_more m.answering _ A _ _ _ ended reads ends;
    takes = takes;
    input = read ∙ sym (ends_read m.answering (λ cause. ⊥) A _ _ ended (λ cause none. absurd none) ends);
    output = output;
  }

  -- a call whose parts are rejected
  pub call_rejected : (to : SinkState) (u : Rejection) (place : P) (ended : Ended F P) → ended ≡ end_of u place → place ≡ m.answering.nowhere →
      IsRejectionBy (m.Refuses from.remaining from'.remaining) u → TakesWithin from from' (max_text_length + 1) →
      from'.has_failed ≡ is_reader_failure u → to.has_failed ≡ false → Call m from from' to to ended
  call_rejected to u place ended is nowhere h takes input output =
      subst (Call m from from' to to) (sym (is ∙ ap (end_of u) nowhere)) (record {
        ends = rejected_ends m.answering _ _ to.written u h;
        takes = takes;
        input = input ∙ rejected_read F u m.answering.nowhere;
        output = output ∙ sym (rejected_written F u m.answering.nowhere);
      })

-- the status is 6 exactly if the output cannot be written
unwritten_is_six : {F P : Type 0} (is_yes : F → Bool) (ended : Ended F P) → is_unwritten ended ≡ (status_of is_yes ended == 6)
unwritten_is_six is_yes (Done found) = go (is_yes found)
  where
    go : (b : Bool) → false ≡ ((if b then 0 else 1) == 6)
    go true = refl
    go false = refl
unwritten_is_six is_yes (Refused cause) = refl
unwritten_is_six is_yes (Stopped Limit place) = refl
unwritten_is_six is_yes (Stopped Terms place) = refl
unwritten_is_six is_yes (Stopped States place) = refl
unwritten_is_six is_yes (Stopped Lines place) = refl
unwritten_is_six is_yes (Stopped Memory place) = refl
unwritten_is_six is_yes (Stopped Write place) = refl

-- a call that ran failed to write exactly if its status is 6
pub ran_output : {F P : Type 0} (m : Meaning F P) (is_yes : F → Bool) (from from' : SourceState) (to to' : SinkState) (status : ℕ) →
    Ran m is_yes from from' to to' status → to'.has_failed ≡ (status == 6)
ran_output m is_yes from from' to to' status ran =
    ran.call.output ∙ unwritten_is_six is_yes ran.ended ∙ ap (λ s. s == 6) (sym ran.status_is)
