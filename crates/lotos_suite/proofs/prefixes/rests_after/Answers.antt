use Rattle.std.proofs.Common.{subst}
use Rattle.lotos_check.specs.NameLists.{In}
use Rattle.lotos_suite.proofs.prefixes.rests_after.Goals as goal

pub rests_of_rests-requires : goal.rests_of_rests-requires
rests_of_rests-requires c = λ k i. c.requires k (subst (In k) c.as_slice.ensures.value i)
