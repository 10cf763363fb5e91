use Rattle.std.proofs.Common.{◌≡◌, ◌<◌, ℕ, Some, map, slice_get}
use Rattle.lotos_listing.specs.Lookups.{text_of}
use Rattle.lotos_listing.specs.Order.{After}
use Rattle.lotos_suite.specs.declared.suite.SuiteLine.{SuiteLine}
use Rattle.lotos_tool.proofs.suite_command.count_not_after.Given as goal

-- no line before the index comes after the mark
abbrev pub invariant-loop-index : goal.invariant-loop-index
invariant-loop-index l = (k : ℕ) (line : SuiteLine) → k < l.index → slice_get l.lines k ≡ Some line →
    After l.mark (map (text_of l.gates) line.labels.items) → ⊥
