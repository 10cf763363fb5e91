use Rattle.std.proofs.Common.{◌≡◌, take}
use Rattle.lotos_check.proofs.name_lists.copy_as_set.Given as goal

abbrev pub invariant-loop-name : goal.invariant-loop-name
invariant-loop-name l = l.set.items ≡ take l.name-index l.names
