use Rattle.std.proofs.Common.{length}
use Rattle.lotos_explain.proofs.functionality_causes.+find_definition.Given as goal

abbrev pub decreases-find_definition : goal.decreases-find_definition
decreases-find_definition l = length l.scopes.now
