use Rattle.std.proofs.Common.{◌≡◌, ℕ, Some, length, slice_get}
use Rattle.lotos_suite.proofs.apart_sequences.no_states.Given as goal

abbrev pub invariant-loop : goal.invariant-loop
invariant-loop l = record {
  counted : length l.none.items ≡ l.counter;
  none : (c e : ℕ) → slice_get l.none.items c ≡ Some (Some e) → ⊥;
}
