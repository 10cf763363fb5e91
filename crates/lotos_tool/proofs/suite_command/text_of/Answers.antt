use Rattle.std.proofs.Common.{◌∙◌, ap, length, subst, sym}
use Rattle.lotos_suite.specs.SuiteResults.{returned_lines}
use Rattle.lotos_tool.specs.SuiteOutcome.{signed_lines}
use Rattle.lotos_tool.specs.SuiteParts.{HavePrintedLabels}
use Rattle.lotos_tool.proofs.SuiteTexts.{IsLastAt, made_of, part_printed}
use Rattle.lotos_tool.proofs.suite_command.text_of.Goals as goal

pub format_lines-requires : goal.format_lines-requires
format_lines-requires c =
    let part = part_printed c.args.gates.now c.args.lines.now c.lines_after-later.result.now c.args.limit c.requires.printed c.lines_after-later.ensures.part in
    subst (HavePrintedLabels c.args.gates.now) (sym c.up_to_limit-written.ensures) part

pub last_at_limit-requires-clause-printed : goal.last_at_limit-requires-clause-printed
last_at_limit-requires-clause-printed c =
    let part = part_printed c.args.gates.now c.args.lines.now c.lines_after-later.result.now c.args.limit c.requires.printed c.lines_after-later.ensures.part in
    subst (HavePrintedLabels c.args.gates.now) (sym c.up_to_limit-written.ensures) part

pub returns : goal.returns
returns c =
    let names = c.args.gates.now in
    let later = c.lines_after-later.result.now in
    let limit = c.args.limit in
    let written = c.up_to_limit-written.ensures in
    made_of names c.args.mark.now (returned_lines names c.args.lines.now) later c.lines_after-later.ensures.after _ _ limit c.in_ok-last.last
    (subst (λ xs. IsLastAt names xs limit c.in_ok-last.last) written c.in_ok-last.ensures)
    (c.in_ok-text.ensures ∙ ap (λ xs. signed_lines (returned_lines names xs)) written)
    (ap length written)
