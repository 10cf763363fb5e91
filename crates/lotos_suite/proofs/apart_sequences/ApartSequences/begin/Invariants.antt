use Rattle.std.proofs.Common.{◌≡◌, ℕ, Bool, true, Some, length, slice_get}
use Rattle.lotos_suite.proofs.apart_sequences.ApartSequences.begin.Given as goal

abbrev pub invariant-loop : goal.invariant-loop
invariant-loop l = record {
  counted_all : length l.all.items ≡ l.counter;
  counted : length l.classes.items ≡ l.counter;
  true_all : (j : ℕ) (flag : Bool) → slice_get l.all.items j ≡ Some flag → flag ≡ true;
  zeros : (j c : ℕ) → slice_get l.classes.items j ≡ Some c → c ≡ 0;
}
