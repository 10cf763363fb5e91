use Rattle.std.proofs.Common.{arith}
use Rattle.std.proofs.lemmas.List.{take_all}
use Rattle.std.proofs.lemmas.Option.{slice_get_read}
use Rattle.lotos_check.proofs.ListIndices.{get_in}
use Rattle.lotos_tool.proofs.SuiteTexts.{alone_printed, one_more_line}
use Rattle.lotos_tool.proofs.suite_command.format_lines.Goals as goal
use Rattle.std.proofs.Common.{◌∙◌, ap, refl}
use Rattle.lotos_suite.specs.SuiteResults.{returned_lines}
use Rattle.lotos_tool.specs.SuiteOutcome.{signed_lines}

pub append_line-requires : goal.append_line-requires
append_line-requires c =
    let lines = c.args.lines.now in
    let at = slice_get_read lines _ _ _ refl c.loop-line-test.true c.line-item.is in
    alone_printed c.args.gates.now c.line-item.result lines c.requires (get_in lines c.loop-line.line-index c.line-item.result at)

pub loop-line-preserved : goal.loop-line-preserved
loop-line-preserved c =
    let lines = c.args.lines.now in
    let at = slice_get_read lines _ _ _ refl c.loop-line-test.true c.line-item.is in
    one_more_line c.args.gates.now lines c.loop-line.line-index c.line-item.result _ _ at c.loop-line.invariant c.in_ok-append_line.ensures

pub returns : goal.returns
returns c =
    let all = take_all c.loop-line.line-index c.args.lines.now (omega (arith, c.loop-line-test.false)) in
    c.loop-line.invariant ∙ ap (λ ls. signed_lines (returned_lines c.args.gates.now ls)) all
