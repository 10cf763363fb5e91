use Rattle.network_tests.proofs.shape_parts.+is_composed.Given as goal

abbrev pub decreases-is_composed : goal.decreases-is_composed
decreases-is_composed l = l.term
