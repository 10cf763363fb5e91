use Rattle.std.proofs.Common.{◌-◌, length}
use Rattle.lotos_output.proofs.SharedTexts.{IsPartOfBoth}
use Rattle.lotos_output.proofs.output_lines.part_of_both.Given as goal

-- the text up to the end is that of the labels before the count, which both lists have
abbrev pub invariant-loop-label : goal.invariant-loop-label
invariant-loop-label l = IsPartOfBoth l.gates l.known l.labels l.text l.count l.end

-- the labels from the count on
abbrev pub decreases-loop-label : goal.decreases-loop-label
decreases-loop-label l = length l.labels - l.count
