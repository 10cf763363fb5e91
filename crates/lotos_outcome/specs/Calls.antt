-- How a call of a command ends, whatever is asked and answered.
use Rattle.std.specs.Prelude.{◌≡◌, ℕ, ◌+◌, ◌⊎◌, Bool, List, Option}
use Rattle.std.specs.Io.KnownBytes.{Appends, Keeps}
use Rattle.lotos_text.specs.Limits.{max_text_length}
use Rattle.lotos_device.specs.DeviceStates.{SinkState, SourceState}
use Rattle.lotos_device.specs.TextInput.{TakesWithin}
use Rattle.lotos_outcome.specs.Outcomes.{is_unread, is_unwritten, status_of}
use Rattle.lotos_outcome.specs.declared.outcome.Ended.{Ended}
use Rattle.lotos_outcome.specs.declared.outcome.Ended.TheVariants.{Done, Refused, Stopped}
use Rattle.lotos_outcome.specs.declared.outcome.Stop.{Stop}
use Rattle.lotos_outcome.specs.declared.outcome.Stop.TheVariants.{Memory}
use Rattle.lotos_outcome.specs.declared.refusal.Refusal.{Refusal}

-- what a command may find, and where it may stop
pub record Answering (F P : Type 0) : Type 1 where
  -- the questions that it answers
  pub Question : Type 0
  -- what is found for a question, and the bytes that are written if nothing stops it
  pub Answers : Question → F → (bytes : List ℕ) → Type 0
  -- where it may stop for a cause, and the bytes that were written until then
  pub Stops : Question → Stop → P → (bytes : List ℕ) → Type 0
  -- the place of a command that stops before it has looked for an answer
  pub nowhere : P

-- what is a command's own: which questions it reads, what is found for each and which bytes are then written, where it
-- may stop with which bytes, and what it refuses
pub record Meaning (F P : Type 0) : Type 1 where
  pub answering : Answering F P
  -- why it is refused, by what the reader had left before it and after it
  pub Refuses : (left left' : Option (List ℕ)) → Refusal → Type 0
  -- which question it is asked, by what the reader had left before it and after it
  pub Reads : (left left' : Option (List ℕ)) → answering.Question → Type 0

-- one of these questions is asked, and exactly the bytes of which `Said` holds were written
pub record IsWritten {Q : Type 0} (Asked : Q → Type 0) (Said : Q → List ℕ → Type 0) (got got' : Option (List ℕ))
    : Type 0 where
  pub question : Q
  pub bytes : List ℕ
  pub asked : Asked question
  pub said : Said question bytes
  pub written : Appends got got' bytes

-- what each end of a call means, if `Refuses` is why it is refused and `Asked` holds of the question: all was found and
-- written; or it is refused, and nothing was written; or it stopped where it may, with what was written until then. If
-- memory runs out, that may be before it has looked for an answer, and then nothing was written. If `cover` stops at
-- `--limit 2`, say, a question was asked that `cover_meaning` reads from the request and the text, and exactly the
-- first two lines of its cover were written
abbrev pub EndsAs : {F P : Type 0} → (a : Answering F P) → (Refuses : Refusal → Type 0) →
    (Asked : a.Question → Type 0) → (got got' : Option (List ℕ)) → Ended F P → Type 0
EndsAs a Refuses Asked got got' (Done found) = IsWritten Asked (λ q. a.Answers q found) got got'
EndsAs a Refuses Asked got got' (Refused cause) = Refuses cause × Keeps got got'
EndsAs a Refuses Asked got got' (Stopped Memory place) =
    ((place ≡ a.nowhere) × Keeps got got') ⊎ IsWritten Asked (λ q. a.Stops q Memory place) got got'
EndsAs a Refuses Asked got got' (Stopped cause place) = IsWritten Asked (λ q. a.Stops q cause place) got got'

-- what each end of a call means that is not refused
abbrev pub Answered : {F P : Type 0} → (a : Answering F P) → (Asked : a.Question → Type 0) →
    (got got' : Option (List ℕ)) → Ended F P → Type 0
Answered a Asked got got' ended = EndsAs a (λ cause. ⊥) Asked got got' ended

module _ {F P : Type 0} (m : Meaning F P) where
  -- what a call did with the reader and the writer, and how it ended
  pub record Call (from from' : SourceState) (to to' : SinkState) (ended : Ended F P) : Type 0 where
    -- it is refused for what was read, or answers the question that was read
    pub ends : EndsAs m.answering (m.Refuses from.remaining from'.remaining) (m.Reads from.remaining from'.remaining)
        to.written to'.written ended
    -- at most one byte more than a text may have was taken from the reader, whatever it returns
    pub takes : TakesWithin from from' (max_text_length + 1)
    -- the reader failed exactly if the outcome says so
    pub input : from'.has_failed ≡ is_unread ended
    -- and so did the writer
    pub output : to'.has_failed ≡ is_unwritten ended

  -- a call ended, and the status is that of its outcome
  pub record Ran (is_yes : F → Bool) (from from' : SourceState) (to to' : SinkState) (status : ℕ) : Type 0 where
    pub ended : Ended F P
    pub call : Call from from' to to' ended
    pub status_is : status ≡ status_of is_yes ended
