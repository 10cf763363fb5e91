use Rattle.std.proofs.Common.{◌≡◌, ◌<◌, ℕ, Some, slice_get}
use Rattle.lotos_suite.specs.ApartSearch.{AreAlike}
use Rattle.lotos_suite.proofs.apart_sequences.tells_apart.Given as goal

abbrev pub invariant-loop-state : goal.invariant-loop-state
invariant-loop-state l = (j c : ℕ) → j < l.state → slice_get l.classes j ≡ Some c → AreAlike l.can j c
