use Rattle.std.proofs.Common.{◌≡◌, ◌∷◌, ℕ, Bool, MatchBool, Some, List, length, slice_get}
use Rattle.lotos_suite.specs.ApartSearch.{AreFlags}
use Rattle.lotos_store.specs.Interning.{plain_lists}
use Rattle.lotos_suite.specs.Machines.{CanDoFrom}
use Rattle.lotos_listing.specs.Order.{Label as Text}
use Rattle.lotos_suite.specs.SuiteTables.{IsSubject, IsTableOf, Subject}
use Rattle.lotos_suite.proofs.apart_sequences.states_that_can.Given as goal

abbrev pub invariant-loop-state : goal.invariant-loop-state
invariant-loop-state l = record {
  counted : length l.states.items ≡ l.state;
  each : (s : Subject) (x : Text) (w : List Text) → IsSubject s → IsTableOf s (plain_lists l.rows) → slice_get s.labels l.label ≡ Some x →
      AreFlags s.machine w l.can → (j : ℕ) (flag : Bool) → slice_get l.states.items j ≡ Some flag →
      MatchBool flag (CanDoFrom s.machine j (x ∷ w)) (CanDoFrom s.machine j (x ∷ w) → ⊥);
}
