use Rattle.std.specs.Prelude.{IfSome}
use Rattle.lotos_check.specs.NameLists.{In}
use Rattle.lotos_origins.proofs.repeats.first_alike.Given as goal

abbrev pub invariant-loop-number : goal.invariant-loop-number
invariant-loop-number l = IfSome l.found (λ at. In at l.turns.bounds.items)
