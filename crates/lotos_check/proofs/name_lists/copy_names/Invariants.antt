use Rattle.std.proofs.Common.{◌≡◌, take}
use Rattle.lotos_check.specs.NameLists.{texts}
use Rattle.lotos_check.proofs.name_lists.copy_names.Given as goal

abbrev pub invariant-loop-one : goal.invariant-loop-one
invariant-loop-one l = l.names.items ≡ texts (take l.one-index l.placed)
