use Rattle.std.proofs.Common.{◌≡◌, ℕ, List, Option, Some, length, slice_get}
use Rattle.lotos_store.specs.Interning.{plain_lists}
use Rattle.lotos_store.specs.declared.label.Label.{Label}
use Rattle.lotos_suite.specs.SuiteResults.{IsRowBy}
use Rattle.lotos_suite.specs.declared.moves.Move.{Move}
use Rattle.lotos_suite.proofs.suite.rows_by.Given as goal

abbrev pub invariant-loop-state : goal.invariant-loop-state
invariant-loop-state l = record {
  counted : length l.rows.items ≡ l.state;
  rows : (j : ℕ) (list : List (Label × ℕ)) (row : List (Option Move)) → slice_get (plain_lists l.graph) j ≡ Some list →
      slice_get (plain_lists l.rows.items) j ≡ Some row → IsRowBy l.access j list l.labels row;
}
