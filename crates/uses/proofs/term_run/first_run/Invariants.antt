use Rattle.std.proofs.Common.{◌≡◌, ◌<◌, length}
use Rattle.lotos_terms.specs.TableView.{Grows, IsSoundView}
use Rattle.uses.specs.TermRuns.{RunTo}
use Rattle.uses.proofs.term_run.first_run.Given as goal

abbrev pub invariant-loop : goal.invariant-loop
invariant-loop l = record {
  grows : Grows l.fn.table l.table;
  sound : IsSoundView l.table;
  below : l.here < length l.table.terms;
  run : RunTo l.table l.table.start l.run.items l.here;
  steps : length l.run.items ≡ l.counter;
}
