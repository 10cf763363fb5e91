use Rattle.std.proofs.Common.{map, drop}
use Rattle.lotos_warn.proofs.NameTests.{IncludesAgain}
use Rattle.lotos_warn.proofs.exchanged_gates.are_among.Given as goal

abbrev pub invariant-loop-name : goal.invariant-loop-name
invariant-loop-name l = IncludesAgain (map (λ k. k.now) l.set.keys) (drop l.name-index l.names) l.names
