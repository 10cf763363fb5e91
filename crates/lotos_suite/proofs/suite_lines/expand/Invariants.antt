use Rattle.std.proofs.Common.{ℕ, List}
use Rattle.lotos_store.specs.Interning.{plain_lists}
use Rattle.lotos_listing.specs.Order.{Label as Text}
use Rattle.lotos_suite.specs.SuitePrefixes.{IsSetting}
use Rattle.lotos_suite.specs.SuiteSearch.{AreLevel, AreLinesTo, AreNext}
use Rattle.lotos_suite.specs.SuiteTables.{IsTableOf, Subject}
use Rattle.lotos_suite.specs.Suites.{SuiteParts}
use Rattle.lotos_suite.proofs.suite_lines.expand.Given as goal

abbrev pub invariant-loop-prefix : goal.invariant-loop-prefix
invariant-loop-prefix l = (s : Subject) (parts : SuiteParts) (sequences : List (List Text)) (d : ℕ) →
    IsSetting s l.extra parts l.steps sequences → IsTableOf s (plain_lists l.rows) → AreLevel s parts sequences d l.level →
    AreLinesTo s parts sequences d l.level 0 l.fn.lines.items →
    AreNext s parts sequences l.level l.prefix-index l.longer.items × AreLinesTo s parts sequences d l.level l.prefix-index l.lines.items
