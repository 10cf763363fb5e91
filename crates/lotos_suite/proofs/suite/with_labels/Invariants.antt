use Rattle.std.proofs.Common.{◌≡◌, ℕ, Some, length, slice_get}
use Rattle.lotos_suite.specs.SuiteResults.{HasLabels}
use Rattle.lotos_suite.specs.declared.suite.SuiteLine.{SuiteLine}
use Rattle.lotos_suite.specs.declared.suite_lines.CutLine.{CutLine}
use Rattle.lotos_suite.proofs.suite.with_labels.Given as goal

abbrev pub invariant-loop-line : goal.invariant-loop-line
invariant-loop-line l = record {
  counted : length l.result.items ≡ l.line-index;
  each : (k : ℕ) (line : CutLine) (other : SuiteLine) → slice_get l.lines k ≡ Some line → slice_get l.result.items k ≡ Some other →
      HasLabels l.labels line other;
}
