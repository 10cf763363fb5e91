use Rattle.std.proofs.Common.{take}
use Rattle.lotos_pattern.specs.Places.{IsPlaceOf}
use Rattle.lotos_pattern.specs.Spelling.{texts_of}
use Rattle.uses.proofs.pattern_matching.place_of.Given as goal

abbrev pub invariant-loop-label : goal.invariant-loop-label
invariant-loop-label l = IsPlaceOf l.pattern (take l.label-index (texts_of l.sequence)) l.place
