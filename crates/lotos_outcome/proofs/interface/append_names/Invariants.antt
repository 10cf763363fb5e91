use Rattle.std.proofs.Common.{◌≡◌, ◌++◌, take}
use Rattle.lotos_outcome.proofs.interface.append_names.Given as goal

-- the names before the index are appended
abbrev pub invariant-loop-name : goal.invariant-loop-name
invariant-loop-name l = l.all.items ≡ l.fn.all.items ++ take l.name-index l.names
