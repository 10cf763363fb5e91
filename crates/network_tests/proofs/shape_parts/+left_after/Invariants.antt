use Rattle.network_tests.proofs.shape_parts.+left_after.Given as goal

abbrev pub decreases-left_after : goal.decreases-left_after
decreases-left_after l = l.shape
