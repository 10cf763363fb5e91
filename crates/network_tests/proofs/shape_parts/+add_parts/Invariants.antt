use Rattle.network_tests.proofs.shape_parts.+add_parts.Given as goal

abbrev pub decreases-add_parts : goal.decreases-add_parts
decreases-add_parts l = l.term
