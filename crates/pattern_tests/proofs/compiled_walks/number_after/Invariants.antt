use Rattle.std.proofs.Common.{◌<◌, length}
use Rattle.pattern_tests.proofs.compiled_walks.number_after.Given as goal

-- the place is one of the compiled pattern
abbrev pub invariant-loop-label : goal.invariant-loop-label
invariant-loop-label l = l.place < length l.pattern.places
