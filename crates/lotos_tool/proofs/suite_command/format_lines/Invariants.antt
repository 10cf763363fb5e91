use Rattle.std.proofs.Common.{◌≡◌, take}
use Rattle.lotos_suite.specs.SuiteResults.{returned_lines}
use Rattle.lotos_tool.specs.SuiteOutcome.{signed_lines}
use Rattle.lotos_tool.proofs.suite_command.format_lines.Given as goal

-- the text so far is that of the lines before the index
abbrev pub invariant-loop-line : goal.invariant-loop-line
invariant-loop-line l = l.text.items ≡ signed_lines (returned_lines l.gates (take l.line-index l.lines))
