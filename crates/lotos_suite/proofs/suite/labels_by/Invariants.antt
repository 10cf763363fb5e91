use Rattle.std.proofs.Common.{◌≡◌, ℕ, Some, length, slice_get}
use Rattle.lotos_store.specs.declared.label.Label.{Label}
use Rattle.lotos_suite.proofs.suite.labels_by.Given as goal

abbrev pub invariant-loop-number : goal.invariant-loop-number
invariant-loop-number l = record {
  counted : length l.list.items ≡ l.number-index;
  each : (k n : ℕ) (x : Label) → slice_get l.numbers k ≡ Some n → slice_get l.list.items k ≡ Some x → slice_get l.labels n ≡ Some x;
}
