use Rattle.std.proofs.Common.{◌≡◌, ◌<◌, length}
use Rattle.lotos_store.specs.StoreView.{term_with}
use Rattle.lotos_origins.specs.Wrappers.{AreWrappers, wrapped_in}
use Rattle.lotos_origins.proofs.wrappers.unwrapped.Given as goal

abbrev pub invariant-loop-wrapper : goal.invariant-loop-wrapper
invariant-loop-wrapper l = record {
  core : l.core < length l.nodes.terms;
  wrappers : AreWrappers l.nodes l.wrappers.items;
  term : term_with l.nodes l.fn.term ≡ wrapped_in l.nodes l.wrappers.items (term_with l.nodes l.core);
}

abbrev pub decreases-loop-wrapper : goal.decreases-loop-wrapper
decreases-loop-wrapper l = l.core
