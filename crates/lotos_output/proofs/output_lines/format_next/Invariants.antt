use Rattle.std.proofs.Common.{List, drop}
use Rattle.lotos_listing.specs.Order.{Label}
use Rattle.lotos_listing.specs.Question.{ArePrinted}
use Rattle.lotos_output.proofs.FormattedLines.{AreLinesLeft}
use Rattle.lotos_output.proofs.output_lines.format_next.Given as goal

-- the lines so far, and those of the labels that are left, are the lines of all
abbrev pub invariant-loop-label : goal.invariant-loop-label
invariant-loop-label l = (next : List Label) → ArePrinted l.gates l.labels next → AreLinesLeft l.gates (drop l.label-index l.labels) l.lines.items next
