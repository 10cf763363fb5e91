use Rattle.lotos_terms.specs.TableView.{Grows, IsSoundView}
use Rattle.lotos_origins.proofs.RunEnds.{HasNoEndBelow}
use Rattle.lotos_origins.proofs.run_origins.find_end.Given as goal

abbrev pub invariant-loop-index : goal.invariant-loop-index
invariant-loop-index l = record {
  grows : Grows l.fn.table l.table;
  sound : IsSoundView l.table;
  none : HasNoEndBelow l.fn.table l.fn.refused l.terms l.index;
}
