use Rattle.std.proofs.Common.{◌≡◌, ◌++◌, ℕ, List, Some}
use Rattle.lotos_listing.specs.Order.{Label as Text}
use Rattle.lotos_suite.specs.SuitePrefixes.{AreLonger, IsPrefix, IsSetting}
use Rattle.lotos_suite.specs.SuiteSearch.{IsRowOf}
use Rattle.lotos_suite.specs.SuiteTables.{Subject}
use Rattle.lotos_suite.specs.Suites.{SuiteParts}
use Rattle.lotos_suite.specs.declared.prefixes.Prefix.{Prefix}
use Rattle.lotos_suite.proofs.suite_lines.add_by_row.Given as goal

abbrev pub invariant-loop-label : goal.invariant-loop-label
invariant-loop-label l = (s : Subject) (parts : SuiteParts) (sequences : List (List Text)) (u : List Text) (j : ℕ) →
    IsSetting s l.extra parts l.steps sequences → IsPrefix s parts sequences l.prefix u → IsRowOf s j l.row → l.prefix.state ≡ Some j →
    (more : List Prefix) × (l.longer.items ≡ l.fn.longer.items ++ more) × AreLonger s parts sequences u l.label more
