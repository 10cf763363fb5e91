use Rattle.std.proofs.Common.{◌≡◌, ◌+◌, ◌-◌, ℕ, length}
use Rattle.lotos_suite.specs.ApartSearch.{HasSearchedTo, strays}
use Rattle.lotos_store.specs.Interning.{plain_lists}
use Rattle.lotos_suite.specs.SuiteTables.{IsSubject, IsTableOf, Subject}
use Rattle.lotos_suite.proofs.apart_sequences.ApartSequences.find.Given as goal

abbrev pub invariant-loop-from : goal.invariant-loop-from
invariant-loop-from l = record {
  counted : l.to ≡ length l.found.can.items;
  searched : (s : Subject) → IsSubject s → IsTableOf s (plain_lists l.rows) → length s.labels ≡ l.labels →
      (d : ℕ) × HasSearchedTo s l.found d l.from l.to 0 l.from;
}

abbrev pub decreases-loop-from : goal.decreases-loop-from
decreases-loop-from l = strays 0 l.found.classes.items + (l.to - l.from)
