use Rattle.lotos_terms.specs.TableView.{Grows}
use Rattle.terms_tests.proofs.origin_list.origins_of.Given as goal

abbrev pub invariant-loop-step : goal.invariant-loop-step
invariant-loop-step l = record {
  first : Grows l.fn.table l.table;
  grows : Grows l.initial.table l.table;
}
