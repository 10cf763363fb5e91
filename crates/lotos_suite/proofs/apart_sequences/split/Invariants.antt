use Rattle.std.proofs.Common.{◌≡◌, length}
use Rattle.lotos_suite.proofs.StateClasses.{IsPartSplit}
use Rattle.lotos_suite.specs.ApartSearch.{AreClassed}
use Rattle.lotos_suite.proofs.apart_sequences.split.Given as goal

abbrev pub invariant-loop-state : goal.invariant-loop-state
invariant-loop-state l = record {
  counted : length l.split.items ≡ l.state;
  part : (counted : length l.can ≡ length l.classes) (classed : AreClassed (length l.classes) l.classes) →
      IsPartSplit l.can l.classes counted classed l.others.items l.split.items;
}
