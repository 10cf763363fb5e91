use Rattle.std.proofs.Common.{None}
use Rattle.lotos_text.specs.Grammar.{prefixing}
use Rattle.lotos_text.specs.Phrases.{OptionalGates, BehaviourPhrase}
use Rattle.lotos_text.proofs.Calls.{found_call, lost_gates, lost_called}
use Rattle.lotos_text.proofs.OperandEnds.{Ended, missed_end}
use Rattle.lotos_text.proofs.ParseErrors.{missed_on, passed_on}
use Rattle.lotos_text.proofs.behaviour_parser.parse_call.Goals as goal

pub returns-in_err-gates-clause-fails : goal.returns-in_err-gates-clause-fails
returns-in_err-gates-clause-fails c =
    passed_on (OptionalGates c.args.text.now) (BehaviourPhrase c.args.text.now prefixing None) c.args.tokens.now _
    (λ at. lost_gates c.args.text.now c.args.first c.args.tokens.now at c.requires.named c.requires.calls)
    c.from_residual.result c.in_err-gates.field-0.0 c.from_residual.ensures.1 c.in_err-gates.ensures.fails

pub returns-in_err-expect_operand_end-clause-fails : goal.returns-in_err-expect_operand_end-clause-fails
returns-in_err-expect_operand_end-clause-fails c =
    missed_on Ended (BehaviourPhrase c.args.text.now prefixing None) c.in_ok-gates.rest.now _
    (λ at. lost_called c.args.text.now c.args.first c.args.tokens.now c.in_ok-gates.rest.now at _ c.requires.named c.requires.calls
    c.in_ok-gates.ensures.parses)
    c.from_residual-in_err-expect_operand_end.result c.in_err-expect_operand_end.field-0.0 c.from_residual-in_err-expect_operand_end.ensures.1
    (missed_end c.in_ok-gates.rest.now c.in_err-expect_operand_end.field-0.0 c.in_err-expect_operand_end.ensures.fails.0
    c.in_err-expect_operand_end.ensures.fails.1)

pub returns-clause-parses : goal.returns-clause-parses
returns-clause-parses c =
    λ nesting_left. rw c.in_ok-whole.ensures (found_call c.args.text.now nesting_left c.args.first c.args.tokens.now c.in_ok-gates.rest.now c.args.name _
    c.requires.named
    c.requires.placed c.in_ok-gates.ensures.parses c.in_ok-expect_operand_end.ensures.whole)
