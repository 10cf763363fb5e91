use Rattle.std.proofs.Common.{Some, None}
use Rattle.lotos_text.specs.Grammar.{a_specification}
use Rattle.lotos_text.specs.Phrases.{CompleteDefinition, EndOfInput, SpecificationPhrase}
use Rattle.lotos_text.specs.Limits.{max_nesting}
use Rattle.lotos_text.proofs.ParseErrors.{missed_free, carried_on}
use Rattle.lotos_text.proofs.WholeSpecification.{found_whole, carries_definition, lost_more}
use Rattle.lotos_text.proofs.parser.parse_specification.Goals as goal

pub returns-in_err-whole-clause-fails : goal.returns-in_err-whole-clause-fails
returns-in_err-whole-clause-fails c =
    carried_on (CompleteDefinition c.args.text.now a_specification) (SpecificationPhrase c.args.text.now) max_nesting max_nesting
    c.args.tokens.now c.args.tokens.now (carries_definition c.args.text.now max_nesting c.args.tokens.now)
    c.from_residual.result c.in_err-whole.field-0.0 c.from_residual.ensures.1 c.in_err-whole.ensures.fails

pub returns-in_err-expect_end-clause-fails : goal.returns-in_err-expect_end-clause-fails
returns-in_err-expect_end-clause-fails c =
    missed_free EndOfInput (SpecificationPhrase c.args.text.now) max_nesting c.in_ok-whole.rest.now c.args.tokens.now
    (λ at l. lost_more c.args.text.now (Some max_nesting) None c.args.tokens.now c.in_ok-whole.rest.now at _ c.in_ok-whole.ensures.parses l)
    c.from_residual-in_err-expect_end.result c.in_err-expect_end.field-0.0 c.from_residual-in_err-expect_end.ensures.1 c.in_err-expect_end.ensures.fails

pub returns-clause-parses : goal.returns-clause-parses
returns-clause-parses c =
    found_whole c.args.text.now (Some max_nesting) c.args.tokens.now c.in_ok-whole.rest.now _ c.in_ok-whole.ensures.parses
    c.in_ok-expect_end.ensures.parses
