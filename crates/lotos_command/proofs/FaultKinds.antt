-- The fault that `request` returns for a clap fault.
use Rattle.std.proofs.Common.{◌≡◌, ◌∙◌, List, [], None, Some, inl, inr, refl, sym}
use Rattle.clap.specs.Words.{HasKind, Text, fault_of, kind_of}
use Rattle.clap.specs.declared.error.Error.{Error}
use Rattle.clap.specs.declared.error.kind.ErrorKind.{ErrorKind}
use Rattle.clap.specs.declared.error.kind.ErrorKind.TheVariants as kind
use Rattle.lotos_command.specs.CommandRules.{lotosseq}
use Rattle.lotos_command.specs.CommandFaults.{IsFaultOf, IsFaultOfEntries, IsFaultOfKind}
use Rattle.lotos_command.specs.Request.{RequestView, request_of}
use Rattle.lotos_command.specs.declared.command.CommandFault.{CommandFault}
use Rattle.lotos_command.specs.declared.command.CommandFault.TheVariants.{Help, Memory, Wrong}

-- for a clap fault of the kind `OutOfMemory` the fault is `Memory`
pub memory_known : (k : ErrorKind) (fault : CommandFault) → k ≡ kind.OutOfMemory → IsFaultOfKind k fault → fault ≡ Memory
memory_known k (Help text) memory (inl is) = absurd (let e : kind.OutOfMemory ≡ kind.DisplayHelp = sym memory ∙ is in cc)
memory_known k (Help text) memory (inr is) = absurd (let e : kind.OutOfMemory ≡ kind.DisplayVersion = sym memory ∙ is in cc)
memory_known k (Wrong text) memory is = absurd (is.2 memory)
memory_known k Memory memory is = refl

-- the words have the fault that is returned for clap's
pub fault_known : (words : List Text) (error : Error) (fault : CommandFault) → HasKind (fault_of lotosseq words) error
    → IsFaultOfKind (kind_of error) fault → IsFaultOf words fault
fault_known words error (Help text) (inl memory) (inl is) = absurd (let e : kind.OutOfMemory ≡ kind.DisplayHelp = sym memory ∙ is in cc)
fault_known words error (Help text) (inl memory) (inr is) = absurd (let e : kind.OutOfMemory ≡ kind.DisplayVersion = sym memory ∙ is in cc)
fault_known words error (Help text) (inr among) is = (kind_of error, among, is)
fault_known words error (Wrong text) (inl memory) is = absurd (is.2 memory)
fault_known words error (Wrong text) (inr among) is = inl (kind_of error, among, is.0, is.1)
fault_known words error Memory has is = tt

-- the words have the fault that is returned for entries that clap finds without a fault
pub entries_known : (words : List Text) (fault : CommandFault) → fault_of lotosseq words ≡ [] → IsFaultOfEntries (request_of words) fault
    → IsFaultOf words fault
entries_known words (Help text) none is = absurd is
entries_known words (Wrong text) none is = inr (none, is)
entries_known words Memory none is = tt

-- and it is `Memory` if the entries make a request
pub entries_memory : (words : List Text) (fault : CommandFault) (request : RequestView) → request_of words ≡ Some request
    → IsFaultOfEntries (request_of words) fault → fault ≡ Memory
entries_memory words (Help text) request some is = absurd is
entries_memory words (Wrong text) request some is = absurd (let e : None ≡ Some request = sym is ∙ some in cc)
entries_memory words Memory request some is = refl
