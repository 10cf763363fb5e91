use Rattle.std.proofs.Common.{length}
use Rattle.lotos_check.proofs.process_scope.+find_binding.Given as goal

abbrev pub decreases-find_binding : goal.decreases-find_binding
decreases-find_binding l = length l.scopes.now
