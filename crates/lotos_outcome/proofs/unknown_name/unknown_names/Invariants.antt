use Rattle.std.proofs.Common.{map, string_bytes}
use Rattle.lotos_outcome.proofs.UnknownNames.{BeginBefore}
use Rattle.lotos_outcome.proofs.unknown_name.unknown_names.Given as goal

-- the unknown names in the words before the index are in the list
abbrev pub invariant-loop-number : goal.invariant-loop-number
invariant-loop-number l = BeginBefore l.number l.gates (map string_bytes l.words) l.unknown.items
