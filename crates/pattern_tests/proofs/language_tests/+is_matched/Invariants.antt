use Rattle.std.proofs.Common.{◌<◌, length}
use Rattle.pattern_tests.proofs.language_tests.+is_matched.Given as goal

abbrev pub decreases-is_matched : goal.decreases-is_matched
decreases-is_matched l = length l.parts.now

abbrev pub invariant-loop-cut : goal.invariant-loop-cut
invariant-loop-cut l = length l.others < length l.parts
