use Rattle.std.proofs.Common.{◌≡◌, take}
use Rattle.lotos_pattern.specs.Spelling.{texts_of}
use Rattle.lotos_outcome.specs.Interfaces.{AreGatesOf, gates_named}
use Rattle.lotos_outcome.proofs.interface.named_gates.Given as goal

-- the gates so far are those of the names before the index
abbrev pub invariant-loop-name : goal.invariant-loop-name
invariant-loop-name l =
    (l.found.items ≡ gates_named (take l.name-index (texts_of l.name-items)))
    × AreGatesOf l.gates (take l.name-index (texts_of l.name-items))
