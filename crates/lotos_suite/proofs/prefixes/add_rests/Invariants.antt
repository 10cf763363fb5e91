use Rattle.lotos_suite.proofs.RestLists.{AreSomeAnd}
use Rattle.lotos_suite.proofs.prefixes.add_rests.Given as goal

abbrev pub invariant-loop-number : goal.invariant-loop-number
invariant-loop-number l = AreSomeAnd l.steps l.label l.fn.rests.items l.number l.rests.items
