use Rattle.std.proofs.Common.{◌≡◌, ℕ, Option, Some, length, slice_get}
use Rattle.lotos_store.specs.declared.label.Label.{Label}
use Rattle.lotos_suite.specs.SuiteResults.{IsMoveBy}
use Rattle.lotos_suite.specs.declared.moves.Move.{Move}
use Rattle.lotos_suite.proofs.suite.row_of.Given as goal

abbrev pub invariant-loop-label : goal.invariant-loop-label
invariant-loop-label l = record {
  counted : length l.row.items ≡ l.label-index;
  moves : (i : ℕ) (x : Label) (entry : Option Move) → slice_get l.labels i ≡ Some x → slice_get l.row.items i ≡ Some entry →
      IsMoveBy l.access l.fn.state l.transitions x entry;
}
