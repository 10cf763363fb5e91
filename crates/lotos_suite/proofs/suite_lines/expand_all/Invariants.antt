use Rattle.std.proofs.Common.{◌≡◌, ◌≤◌, ◌+◌, ℕ, List, length}
use Rattle.lotos_suite.proofs.SuiteBounds.{left_at}
use Rattle.lotos_store.specs.Interning.{plain_lists}
use Rattle.lotos_listing.specs.Order.{Label as Text}
use Rattle.lotos_suite.specs.SuitePrefixes.{IsSetting}
use Rattle.lotos_suite.specs.SuiteSearch.{AreLevel, AreLinesTo}
use Rattle.lotos_suite.specs.SuiteTables.{IsTableOf, Subject}
use Rattle.lotos_suite.specs.Suites.{SuiteParts}
use Rattle.lotos_suite.proofs.suite_lines.expand_all.Given as goal

abbrev pub invariant-loop-alloc : goal.invariant-loop-alloc
invariant-loop-alloc l = record {
  searched : (s : Subject) (parts : SuiteParts) (sequences : List (List Text)) →
      IsSetting s l.extra parts l.steps sequences → IsTableOf s (plain_lists l.rows) →
      (d : ℕ) × AreLevel s parts sequences d l.level.items × AreLinesTo s parts sequences d l.level.items 0 l.lines.items;
  few : length l.level.items ≡ 0 → length l.lines.items ≤ l.most;
}

abbrev pub decreases-loop-alloc : goal.decreases-loop-alloc
decreases-loop-alloc l = left_at (length (plain_lists l.rows) + l.extra + 1 + length l.steps) l.level.items
