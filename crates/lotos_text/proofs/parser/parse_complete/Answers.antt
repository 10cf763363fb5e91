use Rattle.std.proofs.Common.{Some, None}
use Rattle.lotos_text.specs.Grammar.{a_specification}
use Rattle.lotos_text.specs.Phrases.{CompleteDefinition, DefinitionRest, OneToken}
use Rattle.lotos_text.specs.Limits.{max_nesting}
use Rattle.lotos_text.specs.declared.token.TokenKind.TheVariants.{Reserved}
use Rattle.lotos_text.specs.declared.token.Word.TheVariants as w
use Rattle.lotos_text.proofs.ParseErrors.{missed_free, carried_on}
use Rattle.lotos_text.proofs.WholeSpecification.{found_complete, lost_opening, carries_contents}
use Rattle.lotos_text.proofs.parser.parse_complete.Goals as goal

pub returns-in_err-rest-clause-fails : goal.returns-in_err-rest-clause-fails
returns-in_err-rest-clause-fails c =
    missed_free (OneToken (Reserved w.SpecificationWord)) (CompleteDefinition c.args.text.now a_specification) max_nesting c.args.tokens.now
    c.args.tokens.now (λ at l. lost_opening c.args.text.now None c.args.tokens.now at l)
    c.from_residual.result c.in_err-rest.field-0.0 c.from_residual.ensures.1 c.in_err-rest.ensures.fails

pub returns-in_err-whole-clause-fails : goal.returns-in_err-whole-clause-fails
returns-in_err-whole-clause-fails c =
    carried_on (DefinitionRest c.args.text.now a_specification) (CompleteDefinition c.args.text.now a_specification) max_nesting max_nesting
    c.in_ok-rest.rest.now c.args.tokens.now
    (carries_contents c.args.text.now max_nesting c.args.tokens.now c.in_ok-rest.rest.now c.in_ok-rest.field-0-0
    c.in_ok-rest.ensures.parses.0 c.in_ok-rest.ensures.parses.1)
    c.from_residual-in_err-whole.result c.in_err-whole.field-0.0 c.from_residual-in_err-whole.ensures.1
    c.in_err-whole.ensures.fails

pub returns-clause-parses : goal.returns-clause-parses
returns-clause-parses c =
    found_complete c.args.text.now (Some max_nesting) c.args.tokens.now c.in_ok-rest.rest.now c.in_ok-whole.rest.now c.in_ok-rest.field-0-0 _
    c.in_ok-rest.ensures.parses.0 c.in_ok-rest.ensures.parses.1 c.in_ok-whole.ensures.parses
