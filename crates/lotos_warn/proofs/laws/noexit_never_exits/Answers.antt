use Rattle.lotos_warn.proofs.DeclaredTermination.{never_by_functionality}
use Rattle.lotos_warn.proofs.laws.noexit_never_exits.Goals as goal

pub returns : goal.returns
returns c = never_by_functionality
