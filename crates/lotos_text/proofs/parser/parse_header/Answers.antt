use Rattle.lotos_text.specs.Phrases.{OneToken, OptionalGates, FunctionalityPhrase, HeaderPhrase}
use Rattle.lotos_text.specs.declared.token.TokenKind.TheVariants.{Identifier}
use Rattle.lotos_text.proofs.Headers.{found_header, lost_title, lost_formals, lost_returns}
use Rattle.lotos_text.proofs.OneToken.{found_name, lost_name}
use Rattle.lotos_text.proofs.ParseErrors.{missed_on, passed_on}
use Rattle.lotos_text.proofs.parser.parse_header.Goals as goal

pub returns-in_err-token-clause-fails : goal.returns-in_err-token-clause-fails
returns-in_err-token-clause-fails c =
    missed_on (OneToken Identifier) (HeaderPhrase c.args.text.now) c.args.tokens.now c.args.tokens.now
    (λ at l. lost_title c.args.text.now c.args.tokens.now at (lost_name c.args.text.now c.args.tokens.now at l))
    c.from_residual.result c.in_err-token.field-0.0 c.from_residual.ensures.1 c.in_err-token.ensures.fails

pub returns-in_err-formals-clause-fails : goal.returns-in_err-formals-clause-fails
returns-in_err-formals-clause-fails c =
    let named = found_name c.args.text.now c.args.tokens.now c.in_ok-token.rest.now c.in_ok-token.token c.in_ok-name.name
    c.in_ok-token.ensures.parses.0 c.in_ok-token.ensures.parses.1 c.in_ok-name.ensures in
    passed_on (OptionalGates c.args.text.now) (HeaderPhrase c.args.text.now) c.in_ok-token.rest.now c.args.tokens.now
    (λ at. lost_formals c.args.text.now c.args.tokens.now c.in_ok-token.rest.now at _ named)
    c.from_residual-in_err-formals.result c.in_err-formals.field-0.0 c.from_residual-in_err-formals.ensures.1
    c.in_err-formals.ensures.fails

pub returns-in_err-functionality-clause-fails : goal.returns-in_err-functionality-clause-fails
returns-in_err-functionality-clause-fails c =
    let named = found_name c.args.text.now c.args.tokens.now c.in_ok-token.rest.now c.in_ok-token.token c.in_ok-name.name
    c.in_ok-token.ensures.parses.0 c.in_ok-token.ensures.parses.1 c.in_ok-name.ensures in
    missed_on FunctionalityPhrase (HeaderPhrase c.args.text.now) c.in_ok-formals.rest.now c.args.tokens.now
    (λ at. lost_returns c.args.text.now c.args.tokens.now c.in_ok-token.rest.now c.in_ok-formals.rest.now at _ _ named
    c.in_ok-formals.ensures.parses)
    c.from_residual-in_err-functionality.result c.in_err-functionality.field-0.0 c.from_residual-in_err-functionality.ensures.1
    c.in_err-functionality.ensures.fails

pub returns-clause-parses : goal.returns-clause-parses
returns-clause-parses c =
    found_header c.args.text.now c.args.tokens.now c.in_ok-token.rest.now c.in_ok-formals.rest.now
    c.in_ok-functionality.rest.now _ _ _
    (found_name c.args.text.now c.args.tokens.now c.in_ok-token.rest.now c.in_ok-token.token c.in_ok-name.name
    c.in_ok-token.ensures.parses.0 c.in_ok-token.ensures.parses.1 c.in_ok-name.ensures)
    c.in_ok-formals.ensures.parses c.in_ok-functionality.ensures.parses
