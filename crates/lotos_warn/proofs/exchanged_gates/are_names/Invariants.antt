use Rattle.std.proofs.Common.{drop}
use Rattle.lotos_check.specs.NameLists.{texts}
use Rattle.lotos_warn.proofs.NameTests.{AgreesAgain}
use Rattle.lotos_warn.proofs.exchanged_gates.are_names.Given as goal

abbrev pub invariant-loop-index : goal.invariant-loop-index
invariant-loop-index l = AgreesAgain (texts (drop l.index l.gates)) (drop l.index l.names) (texts l.gates) l.names
