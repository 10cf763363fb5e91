use Rattle.std.proofs.Common.{◌∙◌, List, subst}
use Rattle.lotos_check.specs.NameLists.{Name}
use Rattle.lotos_outcome.specs.Interfaces.{AreGatesOf, names_given}
use Rattle.lotos_outcome.proofs.interface.seen_through.Goals as goal

pub returns-clause-asked : goal.returns-clause-asked
returns-clause-asked c = record {
  known = subst (λ (formals : List Name). AreGatesOf formals (names_given c.args.interface.now)) c.gates.ensures c.in_ok-named.ensures.known;
  seen = c.in_ok-leave.ensures (c.as_slice.ensures.value ∙ c.in_ok-named.ensures.named);
}
