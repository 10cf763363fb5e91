use Rattle.std.proofs.Common.{◌<◌, ◌≤◌, ◌+◌, ℕ, length}
use Rattle.lotos_suite.specs.ApartSearch.{HasSearchedTo, strays}
use Rattle.lotos_store.specs.Interning.{plain_lists}
use Rattle.lotos_suite.specs.SuiteTables.{IsSubject, IsTableOf, Subject}
use Rattle.lotos_suite.proofs.apart_sequences.ApartSequences.add_with_label.Given as goal

abbrev pub invariant-loop-rest : goal.invariant-loop-rest
invariant-loop-rest l = record {
  above : l.from ≤ l.rest;
  searched : (s : Subject) (d : ℕ) → IsSubject s → IsTableOf s (plain_lists l.rows) → l.label < length s.labels →
      HasSearchedTo s l.fn.self d l.from l.to l.label l.from → HasSearchedTo s l.self d l.from l.to l.label l.rest;
  fewer : strays 0 l.self.classes.items + length l.self.can.items ≤ strays 0 l.fn.self.classes.items + length l.fn.self.can.items;
}
