-- The exit status of an outcome, and which outcomes are faults of a device.
use Rattle.std.specs.Prelude.{ℕ, Bool, true, false, Option, None, Some, Result, Ok, Err, if◌then◌else◌}
use Rattle.lotos_outcome.specs.declared.outcome.Ended.{Ended}
use Rattle.lotos_outcome.specs.declared.outcome.Ended.TheVariants.{Done, Refused, Stopped}
use Rattle.lotos_outcome.specs.declared.outcome.Stop.{Stop}
use Rattle.lotos_outcome.specs.declared.outcome.Stop.TheVariants.{Limit, Lines, Memory, States, Terms, Write}
use Rattle.lotos_outcome.specs.declared.refusal.Refusal.{Refusal}
use Rattle.lotos_outcome.specs.declared.refusal.Refusal.TheVariants.{E47}

-- the status of a stop: 3 at the limit, 4 for too many terms, states or lines, 5 out of memory, 6 if the output cannot
-- be written
abbrev pub stop_status : Stop → ℕ
stop_status Limit = 3
stop_status Terms = 4
stop_status States = 4
stop_status Lines = 4
stop_status Memory = 5
stop_status Write = 6

-- the status of an outcome: 0 if what was found is what was asked for, 1 if it is not, 2 if the command is refused, and
-- that of the stop if it stopped
abbrev pub status_of : {F P : Type 0} → (is_yes : F → Bool) → Ended F P → ℕ
status_of is_yes (Done found) = if is_yes found then 0 else 1
status_of is_yes (Refused cause) = 2
status_of is_yes (Stopped cause place) = stop_status cause

-- why the command is refused, if it is
abbrev pub refusal_of : {F P : Type 0} → Ended F P → Option Refusal
refusal_of (Done found) = None
refusal_of (Refused cause) = Some cause
refusal_of (Stopped cause place) = None

-- ---- the reader

-- the refusal is that the reader failed
abbrev pub is_unreadable : Refusal → Bool
is_unreadable E47 = true
is_unreadable _ = false

-- the outcome is that the reader failed
abbrev pub is_unread : {F P : Type 0} → Ended F P → Bool
is_unread (Done found) = false
is_unread (Refused cause) = is_unreadable cause
is_unread (Stopped cause place) = false

-- ---- the writer

-- the cause is that the output cannot be written
abbrev pub is_write : Stop → Bool
is_write Limit = false
is_write Terms = false
is_write States = false
is_write Lines = false
is_write Memory = false
is_write Write = true

-- the outcome is that the output cannot be written
abbrev pub is_unwritten : {F P : Type 0} → Ended F P → Bool
is_unwritten (Done found) = false
is_unwritten (Refused cause) = false
is_unwritten (Stopped cause place) = is_write cause

-- the result is that the output cannot be written
abbrev pub is_write_fault : {T : Type 0} → Result T Stop → Bool
is_write_fault (Ok value) = false
is_write_fault (Err cause) = is_write cause
