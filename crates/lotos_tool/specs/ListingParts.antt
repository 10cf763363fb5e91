-- What the parts of the output of a listing return.
use Rattle.std.specs.Prelude.{◌≡◌, ℕ, ◌<◌, ◌^◌, ◌==◌, Bool, true, false, List, [], Option, None, Some, ⊤, string_bytes}
use Rattle.std.specs.Io.KnownBytes.{Keeps}
use Rattle.std.specs.Option.{option_map}
use Rattle.std.specs.declared.string.String.{String}
use Rattle.std.specs.declared.alloc.Global.{Global}
use Rattle.lotos_check.specs.NameLists.{Name}
use Rattle.lotos_tool.specs.declared.findings.Listed.{Listed}
use Rattle.lotos_tool.specs.declared.findings.ListingPlace.{ListingPlace}
use Rattle.lotos_store.specs.declared.label.Label.{Label as TermLabel}
use Rattle.lotos_listing.specs.Order.{Label}
use Rattle.lotos_output.specs.OutputLines.{HasText, sequence_text}
use Rattle.lotos_tool.specs.ListingQuestions.{IsFirstStop, IsOneSetTooMany, IsOversizedPrefix, ListingQuestion}
use Rattle.lotos_outcome.specs.declared.outcome.Ended.{Ended}
use Rattle.lotos_outcome.specs.declared.outcome.Ended.TheVariants.{Done, Stopped}
use Rattle.lotos_outcome.specs.declared.outcome.Stop.{Stop}
use Rattle.lotos_outcome.specs.declared.outcome.Stop.TheVariants.{Limit, Lines, Memory, States, Terms, Write}

-- a listing with so many lines was flushed, and is complete; or the flush failed, and it stopped after `last`
abbrev pub IsFinished : (got got' : Option (List ℕ)) → Option (String Global) → ℕ → Ended Listed ListingPlace → Type 0
IsFinished got got' last lines (Done found) = (found.lines ≡ lines) × Keeps got got'
IsFinished got got' last lines (Stopped Write place) = (place ≡ record { last = last; prefix = None }) × Keeps got got'
IsFinished got got' last lines _ = ⊥

-- the cause of a stop at an oversized prefix: its text, or out of memory, or that the writer failed
abbrev pub IsPrefixStop : (r : List Label) → (failed : Bool) → Stop → Option (String Global) → Type 0
IsPrefixStop r failed Terms prefix = (option_map string_bytes prefix ≡ Some (sequence_text r)) × (failed ≡ false)
IsPrefixStop r failed Memory prefix = (prefix ≡ None) × (failed ≡ false)
IsPrefixStop r failed Write prefix = (prefix ≡ None) × (failed ≡ true)
IsPrefixStop r failed _ prefix = ⊥

-- the cause of a stop at a halt, and the text of its prefix: the first sequence at which the listing stops is an
-- oversized prefix, with this text, or leads to one set too many; or memory ran out, or the writer failed
abbrev pub IsHaltCause : ListingQuestion → Option (List Label) → (failed : Bool) → Stop → Option (String Global) →
    Type 0
IsHaltCause q cursor failed Limit prefix = ⊥
IsHaltCause q cursor failed Terms prefix =
    (r : List Label) × (option_map string_bytes prefix ≡ Some (sequence_text r)) × IsFirstStop q cursor r
    × IsOversizedPrefix q r × (failed ≡ false)
IsHaltCause q cursor failed States prefix =
    (r : List Label) × (prefix ≡ None) × IsFirstStop q cursor r × IsOneSetTooMany q r × (failed ≡ false)
IsHaltCause q cursor failed Lines prefix = ⊥
IsHaltCause q cursor failed Memory prefix = (prefix ≡ None) × (failed ≡ false)
IsHaltCause q cursor failed Write prefix = (prefix ≡ None) × (failed ≡ true)

-- whether there is a limit, and it is this number of lines
abbrev pub is_at_limit : ℕ → Option ℕ → Bool
is_at_limit lines None = false
is_at_limit lines (Some limit) = limit == lines

-- a limit, if one is given, fits its type
abbrev pub IsSmall : Option ℕ → Type 0
IsSmall None = ⊤
IsSmall (Some limit) = limit < 2 ^ 32

-- the text of the last line is that of the sequence of these labels; without a line there are none
abbrev pub HasLastText : List Name → List TermLabel → Option (String Global) → Type 0
HasLastText names labels None = labels ≡ []
HasLastText names labels (Some text) = HasText names labels (string_bytes text)
