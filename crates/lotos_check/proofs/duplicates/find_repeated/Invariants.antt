use Rattle.std.proofs.Common.{drop, map}
use Rattle.lotos_check.proofs.VisitedNames.{Seen}
use Rattle.lotos_check.proofs.duplicates.find_repeated.Given as goal

abbrev pub invariant-loop-placed : goal.invariant-loop-placed
invariant-loop-placed l = Seen (map (λ k. k.now) l.seen.keys) l.names (drop l.placed-index l.names)
