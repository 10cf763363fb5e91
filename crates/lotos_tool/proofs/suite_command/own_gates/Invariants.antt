use Rattle.std.proofs.Common.{◌≡◌, take}
use Rattle.lotos_tool.proofs.suite_command.own_gates.Given as goal

-- the names so far are the gates before the index
abbrev pub invariant-loop-name : goal.invariant-loop-name
invariant-loop-name l = l.names.items ≡ take l.name-index l.own
