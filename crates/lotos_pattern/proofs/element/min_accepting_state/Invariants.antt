use Rattle.std.proofs.Common.{[], drop}
use Rattle.lotos_pattern.specs.Patterns.{IsJoin, Segment}
use Rattle.lotos_pattern.specs.ElementView.{elements_of}
use Rattle.lotos_pattern.proofs.element.min_accepting_state.Given as goal

-- the elements from here on may all be empty
abbrev pub invariant-loop-index : goal.invariant-loop-index
invariant-loop-index l = IsJoin Segment (drop l.index (elements_of l.elements)) []
