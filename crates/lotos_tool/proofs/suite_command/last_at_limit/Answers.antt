use Rattle.std.proofs.Common.{◌∙◌, Some, ap, sym}
use Rattle.std.specs.Option.{option_map}
use Rattle.lotos_check.proofs.ListIndices.{get_in}
use Rattle.lotos_suite.specs.SuiteResults.{returned_line}
use Rattle.lotos_suite.specs.declared.suite.SuiteLine.{SuiteLine}
use Rattle.lotos_tool.specs.SuiteOutcome.{signed_text}
use Rattle.lotos_tool.proofs.SuiteTexts.{alone_printed, last_is}
use Rattle.lotos_tool.proofs.suite_command.last_at_limit.Goals as goal

pub format_line-requires : goal.format_line-requires
format_line-requires c = alone_printed c.args.gates.now c.in-Some.line.now c.args.lines.now c.requires.printed
    (get_in c.args.lines.now _ c.in-Some.line.now (sym c.in-Some.ensures.value))

pub returns-in_ok-format_line-in-Some : goal.returns-in_ok-format_line-in-Some
returns-in_ok-format_line-in-Some c =
    let shown = λ (line : SuiteLine). signed_text (returned_line c.args.gates.now line) in
    let last = last_is c.args.lines.now c.in-Some.line.now (sym c.in-Some.ensures.value) in (
      sym c.if-not-is_at_limit.ensures.at,
      ap Some c.in_ok-format_line-in-Some.ensures ∙ sym (ap (option_map shown) last),
    )
