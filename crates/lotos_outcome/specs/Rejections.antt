-- What a rejection of the parts of a question means.
use Rattle.std.specs.Prelude.{ℕ, Bool, false, List, Result, Err, Ok, if◌then◌else◌}
use Rattle.lotos_check.specs.Flat.{System}
use Rattle.lotos_check.specs.AcceptedText.{Accepted, AcceptedPair}
use Rattle.lotos_pattern.specs.declared.fault.PatternFault.{PatternFault}
use Rattle.lotos_listing.specs.declared.fault.MarkFault.{MarkFault}
use Rattle.lotos_listing.specs.declared.fault.MarkFault.TheVariants as mark_fault
use Rattle.lotos_command.specs.declared.command.Interface.{Interface}
use Rattle.lotos_pattern.specs.declared.label_words.WordFault.{WordFault}
use Rattle.lotos_pattern.specs.declared.label_words.WordFault.TheVariants as word
use Rattle.lotos_outcome.specs.Outcomes.{is_unreadable}
use Rattle.lotos_outcome.specs.declared.outcome.Ended.{Ended}
use Rattle.lotos_outcome.specs.declared.outcome.Ended.TheVariants as ended
use Rattle.lotos_outcome.specs.declared.outcome.Stop.TheVariants as stop
use Rattle.lotos_outcome.specs.declared.refusal.Refusal.{Refusal}
use Rattle.lotos_outcome.specs.declared.refusal.Refusal.TheVariants as refusal
use Rattle.lotos_outcome.specs.Interfaces.{AreInterfacesOf, IsInterfaceOf}
use Rattle.lotos_outcome.specs.RefusalCauses.{is_memory}
use Rattle.lotos_outcome.specs.declared.rejection.Rejection.{Rejection}
use Rattle.lotos_outcome.specs.declared.rejection.Rejection.TheVariants.{Refused, Memory}

-- what a rejection means, if `Means` is what a refusal means: that, or memory ran out
abbrev pub IsRejectionBy : (Means : Refusal → Type 0) → Rejection → Type 0
IsRejectionBy Means (Refused cause) = Means cause
IsRejectionBy Means Memory = Unit {0}

-- the text is accepted as something of which the interface leaves this
pub record IsAskedAs {S : Type 0} (Accepts : List ℕ → S → Type 0) (Leaves : Interface → S → S → Type 0)
    (interface : Interface) (text : List ℕ) (system : S) : Type 0 where
  pub own : S
  pub accepted : Accepts text own
  pub asked : Leaves interface own system

-- the text is accepted as a system of which the interface leaves this one
abbrev pub IsAskedOf : Interface → (text : List ℕ) → System → Type 0
IsAskedOf = IsAskedAs Accepted IsInterfaceOf

-- the text is accepted as two systems of which the interface leaves these two
abbrev pub AreAskedOf : Interface → (text : List ℕ) → System × System → Type 0
AreAskedOf = IsAskedAs AcceptedPair AreInterfacesOf

-- the rejection for a fault of the words of a pattern
abbrev pub pattern_rejection : PatternFault → Rejection
pattern_rejection fault = if is_memory fault then Memory else Refused (refusal.Pattern fault)

-- the rejection for a fault of the line of a mark
abbrev pub mark_rejection : MarkFault → Rejection
mark_rejection mark_fault.E46 = Refused (refusal.Mark mark_fault.E46)
mark_rejection (mark_fault.E99 e) = Memory

-- the rejection for a word of a sequence
abbrev pub word_rejection : WordFault → Rejection
word_rejection (word.NoLabel n) = Refused (refusal.E41 n)
word_rejection (word.Internal n) = Refused (refusal.E45 n)

-- how a command ends whose parts are rejected: it has looked for no answer
abbrev pub end_of : {F P : Type 0} → Rejection → (nowhere : P) → Ended F P
end_of (Refused cause) nowhere = ended.Refused cause
end_of Memory nowhere = ended.Stopped stop.Memory nowhere

-- the rejection is that the reader failed
abbrev pub is_reader_failure : Rejection → Bool
is_reader_failure (Refused cause) = is_unreadable cause
is_reader_failure Memory = false

-- the result is that the reader failed
abbrev pub is_input_failure : {T : Type 0} → Result T Rejection → Bool
is_input_failure (Ok value) = false
is_input_failure (Err u) = is_reader_failure u
