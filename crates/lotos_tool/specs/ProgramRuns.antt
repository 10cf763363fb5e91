-- What a run of the program does, and its exit status.
use Rattle.std.specs.Prelude.{◌≡◌, ℕ, ◌+◌, ◌≤◌, ◌⊎◌, ◌==◌, Bool, List, Option, string_bytes}
use Rattle.std.specs.Io.KnownBytes.{Appends, Keeps}
use Rattle.lotos_text.specs.Limits.{max_text_length}
use Rattle.lotos_device.specs.ByteOutput.{AppendsBeginning}
use Rattle.lotos_device.specs.DeviceStates.{SinkState, SourceState}
use Rattle.lotos_command.specs.CommandFaults.{AreAccepted, AreRejected, AskForHelp}
use Rattle.lotos_command.specs.Request.{RequestOf, request_view}
use Rattle.lotos_command.specs.declared.command.CommandFault.{CommandFault}
use Rattle.lotos_command.specs.declared.command.CommandFault.TheVariants as fault
use Rattle.lotos_command.specs.declared.command.Request.{Request}
use Rattle.lotos_command.specs.declared.command.Request.TheVariants as command
use Rattle.lotos_outcome.specs.Calls.{Meaning, Ran}
use Rattle.lotos_tool.specs.AfterOutcome.{after_meaning}
use Rattle.lotos_tool.specs.CheckOutcome.{check_meaning}
use Rattle.lotos_tool.specs.CompareOutcome.{compare_meaning}
use Rattle.lotos_tool.specs.CoverOutcome.{cover_meaning}
use Rattle.lotos_tool.specs.EverOutcome.{ever_meaning}
use Rattle.lotos_tool.specs.Findings.{always, are_alike, can_come, happens, has_lines}
use Rattle.lotos_tool.specs.GraphOutcome.{graph_meaning}
use Rattle.lotos_tool.specs.SearchOutcome.{search_meaning}
use Rattle.lotos_tool.specs.SuiteOutcome.{suite_meaning}

module _ (words : List (List ℕ)) (from from' : SourceState) (to to' : SinkState) (status : ℕ) where
  -- the words ask for a command by this kind of request, it ran, and the status is that of its outcome
  pub record CommandRan {R F P : Type 0} (kind : R → Request) (meaning : R → Meaning F P) (is_yes : F → Bool) : Type 0
    where
      pub request : R
      pub asked : RequestOf words (request_view (kind request))
      pub ran : Ran (meaning request) is_yes from from' to to' status

  -- the words ask for a check, with diagnostics or without, which ran
  abbrev pub CheckRan : Type 0
  CheckRan = CommandRan (λ (u : Unit {0}). command.Check) (λ u. check_meaning) always
      ⊎ CommandRan command.Diagnose (λ request. check_meaning) always

-- the text was written and the status is 0, or the output failed after a prefix of it, perhaps all of it, and the
-- status is 6
pub data TextWritten (got got' : Option (List ℕ)) (text : List ℕ) (status : ℕ) : Type 0 where
  written : status ≡ 0 → Appends got got' text → TextWritten got got' text status
  broken_off : status ≡ 6 → AppendsBeginning got got' text → TextWritten got got' text status

-- what is written for a fault of the words, and the status
abbrev pub IsAnswerTo : CommandFault → Option (List ℕ) → Option (List ℕ) → ℕ → Type 0
IsAnswerTo (fault.Help text) got got' status = TextWritten got got' (string_bytes text) status
IsAnswerTo (fault.Wrong text) got got' status = (status ≡ 2) × Keeps got got'
IsAnswerTo fault.Memory got got' status = (status ≡ 5) × Keeps got got'

-- the output and the status if no command ran
pub data MessageOutput (words : List (List ℕ)) (got got' : Option (List ℕ)) (status : ℕ) : Type 0 where
  -- help or the version, if the words ask for it; which text it is stays open
  helped : AskForHelp words → (text : List ℕ) → TextWritten got got' text status → MessageOutput words got got' status
  -- nothing and 2, if the words fit no command
  wrong : AreRejected words → status ≡ 2 → Keeps got got' → MessageOutput words got got' status
  -- nothing and 5, if memory ran out
  out_of_memory : status ≡ 5 → Keeps got got' → MessageOutput words got got' status

-- no command ran, and nothing was read; if clap accepts the words, memory ran out
pub record NoCommandRan (words : List (List ℕ)) (from from' : SourceState) (to to' : SinkState) (status : ℕ) : Type 0
  where
    pub unread : from' ≡ from
    pub reported : MessageOutput words to.written to'.written status
    pub taken : AreAccepted words → status ≡ 5

-- what the program did for the words, and the exit status
pub record ProgramRan (words : List (List ℕ)) (from from' : SourceState) (to to' : SinkState) (status : ℕ) : Type 0
  where
    -- one of the commands ran, or none
    pub ran : CommandRan words from from' to to' status command.Search search_meaning has_lines
        ⊎ CheckRan words from from' to to' status
        ⊎ CommandRan words from from' to to' status command.Ever ever_meaning happens
        ⊎ CommandRan words from from' to to' status command.After after_meaning can_come
        ⊎ CommandRan words from from' to to' status command.Cover cover_meaning has_lines
        ⊎ CommandRan words from from' to to' status command.Graph graph_meaning always
        ⊎ CommandRan words from from' to to' status command.Suite suite_meaning has_lines
        ⊎ CommandRan words from from' to to' status command.Compare compare_meaning are_alike
        ⊎ NoCommandRan words from from' to to' status
    -- at most one byte more than a text may have was taken from the reader
    pub given : from'.given ≤ from.given + (max_text_length + 1)
    -- the output failed exactly if the status is 6
    pub output : to'.has_failed ≡ (status == 6)

-- no argument could be read: nothing was read or written, and the status is that of out of memory
pub record NoArgumentRead (from from' : SourceState) (to to' : SinkState) (status : ℕ) : Type 0 where
  pub unread : from' ≡ from
  pub silent : to' ≡ to
  pub status_is : status ≡ 5
