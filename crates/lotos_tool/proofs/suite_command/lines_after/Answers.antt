use Rattle.std.proofs.Common.{◌≡◌, ◌-◌, ℕ, List, arith, drop, length, subst, sym, take, take-append-drop}
use Rattle.std.proofs.lemmas.List.{length-drop, take_all}
use Rattle.lotos_check.specs.NameLists.{In}
use Rattle.lotos_check.proofs.JoinedLists.{in_back}
use Rattle.lotos_suite.specs.SuiteResults.{returned_lines}
use Rattle.lotos_suite.specs.declared.suite.SuiteLine.{SuiteLine}
use Rattle.lotos_tool.specs.SuiteOutcome.{AreAfter}
use Rattle.lotos_tool.proofs.SuiteTexts.{after_split}
use Rattle.lotos_tool.proofs.suite_command.lines_after.Goals as goal

-- all items from an index on
from_index : (lines : List SuiteLine) (n : ℕ) → take (length lines - n) (drop n lines) ≡ drop n lines
from_index lines n = take_all (length lines - n) (drop n lines) (let e = length-drop n lines in omega arith)

pub returns-clause-after : goal.returns-clause-after
returns-clause-after c =
    let lines = c.args.lines.now in
    let names = c.args.gates.now in
    let first = c.count_not_after-first in
    subst (λ ls. AreAfter c.args.mark.now (returned_lines names lines) (returned_lines names ls)) (sym (from_index lines first.result))
    (after_split names c.args.mark.now lines first.result c.requires.ordered first.ensures.not_after first.ensures.after)

pub returns-clause-part : goal.returns-clause-part
returns-clause-part c = λ line i.
    let n = c.count_not_after-first.result in
    let lines = c.args.lines.now in
    subst (In line) (take-append-drop n lines) (in_back line (take n lines) (drop n lines) (subst (In line) (from_index lines n) i))
