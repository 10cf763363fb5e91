use Rattle.lotos_suite.proofs.RestLists.{AreSomeOf}
use Rattle.lotos_suite.proofs.prefixes.rests_of_rests.Given as goal

abbrev pub invariant-loop-number : goal.invariant-loop-number
invariant-loop-number l = AreSomeOf l.steps l.label l.numbers l.number-index l.rests.items
