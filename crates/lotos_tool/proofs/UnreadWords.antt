-- Runs without a command: the words make no request, or memory ran out before they were read.
use Rattle.std.proofs.Common.{◌≡◌, ℕ, Err, List, Ok, Result, refl, subst}
use Rattle.std.specs.Prelude.{MatchResult}
use Rattle.std.proofs.KnownBytes.{Keeps-refl}
use Rattle.lotos_command.specs.CommandFaults.{AreAccepted, IsFaultOf}
use Rattle.lotos_command.specs.declared.command.CommandFault.{CommandFault}
use Rattle.lotos_command.specs.declared.command.CommandFault.TheVariants.{Help, Memory, Wrong}
use Rattle.lotos_device.specs.DeviceStates.{SinkState, SourceState}
use Rattle.lotos_tool.specs.ProgramRuns.{IsAnswerTo, NoArgumentRead, NoCommandRan, ProgramRan}
use Rattle.lotos_tool.specs.ProgramRuns.MessageOutput.{helped, out_of_memory, wrong}

-- the answer to a fault of the words is that of a run without a command
pub answered : (words : List (List ℕ)) (fault : CommandFault) (from : SourceState) (to to' : SinkState) (status : ℕ) → IsFaultOf words fault →
    (AreAccepted words → fault ≡ Memory) → IsAnswerTo fault to.written to'.written status → NoCommandRan words from from to to' status
answered words (Help text) from to to' status asked taken answer =
    record { unread = refl; reported = helped asked _ answer; taken = λ t. absurd (let e = taken t in cc) }
answered words (Wrong text) from to to' status rejected taken answer =
    record { unread = refl; reported = wrong rejected answer.0 answer.1; taken = λ t. absurd (let e = taken t in cc) }
answered words Memory from to to' status any taken answer =
    record { unread = refl; reported = out_of_memory answer.0 answer.1; taken = λ t. answer.0 }

-- memory may run out whatever the words are
pub unread : (words : List (List ℕ)) (from : SourceState) (to : SinkState) → NoCommandRan words from from to to 5
unread words from to = record { unread = refl; reported = out_of_memory refl (Keeps-refl to.written); taken = λ t. refl }

-- what ran from these states of its devices ran from those that are equal to them
pub from_the_start : {A E : Type 0} (words_of : A → List (List ℕ)) (args : Result A E) (from start from' : SourceState) (to begin to' : SinkState)
    (status : ℕ) → from ≡ start → to ≡ begin →
    MatchResult args (λ words. ProgramRan (words_of words) from from' to to' status) (λ e. NoArgumentRead from from' to to' status) →
    MatchResult args (λ words. ProgramRan (words_of words) start from' begin to' status) (λ e. status ≡ 5)
from_the_start words_of (Ok words) from start from' to begin to' status same alike ran =
    subst (λ f. ProgramRan (words_of words) f from' begin to' status) same (subst (λ t. ProgramRan (words_of words) from from' t to' status) alike ran)
from_the_start words_of (Err e) from start from' to begin to' status same alike ran = ran.status_is
