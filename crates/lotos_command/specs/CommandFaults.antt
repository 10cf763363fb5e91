-- Why words make no request, by the kinds of the faults that clap may report for them.
use Rattle.std.specs.Prelude.{◌≡◌, ◌≢◌, ◌⊎◌, true, List, [], None, Option, Some, ⊤}
use Rattle.clap.specs.Words.{IsAmong, Text, fault_of, takes}
use Rattle.clap.specs.declared.error.kind.ErrorKind.{ErrorKind}
use Rattle.clap.specs.declared.error.kind.ErrorKind.TheVariants as kind
use Rattle.lotos_command.specs.CommandRules.{lotosseq}
use Rattle.lotos_command.specs.Request.{RequestView, request_of}
use Rattle.lotos_command.specs.declared.command.CommandFault.{CommandFault}
use Rattle.lotos_command.specs.declared.command.CommandFault.TheVariants.{Help, Memory, Wrong}

-- clap accepts the words: its parse fails only if memory runs out; and they make a request
abbrev pub AreAccepted : List Text → Type 0
AreAccepted words = (takes lotosseq words ≡ true) × ((request : RequestView) × (request_of words ≡ Some request))

-- the kind of fault by which clap answers a request for help or for the version
abbrev pub IsHelpKind : ErrorKind → Type 0
IsHelpKind k = (k ≡ kind.DisplayHelp) ⊎ (k ≡ kind.DisplayVersion)

-- the words ask for help or for the version: this is one of the kinds of fault that clap may report for them
abbrev pub AskForHelp : List Text → Type 0
AskForHelp words = (k : ErrorKind) × IsAmong k (fault_of lotosseq words) × IsHelpKind k

-- clap may report a fault of the words that is neither of the kind for help nor of that for the version
abbrev pub AreFaulty : List Text → Type 0
AreFaulty words =
    (k : ErrorKind) × IsAmong k (fault_of lotosseq words) × (k ≢ kind.DisplayHelp) × (k ≢ kind.DisplayVersion)

-- clap finds no fault in the words, and the entries that it finds make no request: those of a search that has both a
-- depth and a length, or neither, or those that have both `--hide` and `--only`
abbrev pub MakeNoRequest : List Text → Type 0
MakeNoRequest words = (fault_of lotosseq words ≡ []) × (request_of words ≡ None)

-- clap may report a fault of the words other than for help or for the version, or they make no request
abbrev pub AreRejected : List Text → Type 0
AreRejected words = AreFaulty words ⊎ MakeNoRequest words

-- the words may have this fault; memory can run out for any words
abbrev pub IsFaultOf : List Text → CommandFault → Type 0
IsFaultOf words (Help text) = AskForHelp words
IsFaultOf words (Wrong text) = AreRejected words
IsFaultOf words Memory = ⊤

-- a fault that `request` may return for a clap fault of this kind
abbrev pub IsFaultOfKind : ErrorKind → CommandFault → Type 0
IsFaultOfKind k (Help text) = IsHelpKind k
IsFaultOfKind k (Wrong text) = (k ≢ kind.DisplayHelp) × (k ≢ kind.DisplayVersion) × (k ≢ kind.OutOfMemory)
IsFaultOfKind k Memory = ⊤

-- the fault of entries that make no request: words that fit no command, or out of memory
abbrev pub IsNoRequestFault : CommandFault → Type 0
IsNoRequestFault (Help text) = ⊥
IsNoRequestFault (Wrong text) = ⊤
IsNoRequestFault Memory = ⊤

-- the fault that reading entries may return where they make this, if they make anything: out of memory, or, if they
-- make nothing, words that fit no command
abbrev pub IsFaultOfEntries : {X : Type 0} → Option X → CommandFault → Type 0
IsFaultOfEntries made (Help text) = ⊥
IsFaultOfEntries made (Wrong text) = made ≡ None
IsFaultOfEntries made Memory = ⊤
