use Rattle.std.proofs.Common.{Some}
use Rattle.lotos_text.specs.Grammar.{a_specification}
use Rattle.lotos_text.specs.Phrases.{CompleteDefinition, PairPhrase, SpecificationPhrase}
use Rattle.lotos_text.specs.Limits.{max_nesting}
use Rattle.lotos_text.proofs.ParseErrors.{carried_on}
use Rattle.lotos_text.proofs.WholeSpecification.{carries_first, carries_second, found_pair}
use Rattle.lotos_text.proofs.parser.parse_two.Goals as goal

pub returns-in_err-first-clause-fails : goal.returns-in_err-first-clause-fails
returns-in_err-first-clause-fails c =
    carried_on (CompleteDefinition c.args.text.now a_specification) (PairPhrase c.args.text.now) max_nesting max_nesting
    c.args.tokens.now c.args.tokens.now (carries_first c.args.text.now max_nesting c.args.tokens.now)
    c.from_residual.result c.in_err-first.field-0.0 c.from_residual.ensures.1 c.in_err-first.ensures.fails

pub returns-in_err-second-clause-fails : goal.returns-in_err-second-clause-fails
returns-in_err-second-clause-fails c =
    carried_on (SpecificationPhrase c.args.text.now) (PairPhrase c.args.text.now) max_nesting max_nesting c.in_ok-first.rest.now
    c.args.tokens.now
    (carries_second c.args.text.now (Some max_nesting) max_nesting c.args.tokens.now c.in_ok-first.rest.now _ c.in_ok-first.ensures.parses)
    c.from_residual-in_err-second.result c.in_err-second.field-0.0 c.from_residual-in_err-second.ensures.1 c.in_err-second.ensures.fails

pub returns-clause-parses : goal.returns-clause-parses
returns-clause-parses c =
    found_pair c.args.text.now (Some max_nesting) c.args.tokens.now c.in_ok-first.rest.now _ _ c.in_ok-first.ensures.parses
    c.in_ok-second.ensures.parses
