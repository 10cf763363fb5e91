use Rattle.lotos_pattern.specs.ElementView.{set_of}
use Rattle.lotos_listing.proofs.FlagsOfSets.{AreGateFlags}
use Rattle.lotos_listing.proofs.label_flags.LabelFlags.of_set.Given as goal

abbrev pub invariant-loop-name : goal.invariant-loop-name
invariant-loop-name l = AreGateFlags (set_of l.set) l.names l.gates.items l.name-index
