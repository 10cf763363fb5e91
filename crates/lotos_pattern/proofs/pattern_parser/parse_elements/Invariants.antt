use Rattle.std.proofs.Common.{◌-◌, ◌≤◌, length, take}
use Rattle.lotos_pattern.specs.Spelling.{PatternOf, texts_of}
use Rattle.lotos_pattern.specs.ElementView.{elements_of, pattern_of}
use Rattle.lotos_pattern.proofs.pattern_parser.parse_elements.Given as goal

-- the words before the index spell the elements so far
abbrev pub invariant-loop-index : goal.invariant-loop-index
invariant-loop-index l = record {
  spelled : PatternOf l.strong (take l.index (texts_of l.words))
      (pattern_of l.strong (elements_of l.elements.items));
  within : l.index ≤ length l.words;
}

abbrev pub decreases-loop-index : goal.decreases-loop-index
decreases-loop-index l = length l.words - l.index
