use Rattle.lotos_text.specs.Grammar.{exits, never_exits}
use Rattle.lotos_text.specs.Phrases.{OneToken, OneFunctionality, FunctionalityPhrase}
use Rattle.lotos_text.proofs.OneToken.{found_preceded, lost_before, lost_preceded, found_declared, lost_declared}
use Rattle.lotos_text.proofs.ParseErrors.{still_missed}
use Rattle.lotos_text.proofs.parse_primitives.parse_functionality.Goals as goal

pub returns-in_err-rest-clause-fails : goal.returns-in_err-rest-clause-fails
returns-in_err-rest-clause-fails c =
    still_missed (OneToken _) FunctionalityPhrase c.args.tokens.now c.args.tokens.now (λ at. lost_before _ OneFunctionality c.args.tokens.now at)
    c.from_residual.result c.in_err-rest.field-0.0 c.from_residual.ensures.1 c.in_err-rest.ensures.fails

pub returns-in-Some-clause-parses : goal.returns-in-Some-clause-parses
returns-in-Some-clause-parses c =
    found_preceded _ OneFunctionality c.args.tokens.now c.in_ok-rest.rest.now c.in-Some.after.now c.in_ok-rest.field-0-0 _
    c.in_ok-rest.ensures.parses.0 c.in_ok-rest.ensures.parses.1
    (found_declared c.in_ok-rest.rest.now c.in-Some.after.now c.in-Some.field-0-0 _ c.in-Some.ensures.some.0
    (exits c.in-Some.ensures.some.1))

pub returns-in_err-after-clause-fails : goal.returns-in_err-after-clause-fails
returns-in_err-after-clause-fails c =
    still_missed (OneToken _) FunctionalityPhrase c.in_ok-rest.rest.now c.args.tokens.now
    (λ at l. lost_preceded _ OneFunctionality c.args.tokens.now c.in_ok-rest.rest.now at c.in_ok-rest.field-0-0
    c.in_ok-rest.ensures.parses.0 c.in_ok-rest.ensures.parses.1
    (lost_declared c.in_ok-rest.rest.now at c.in_default.ensures.none l))
    c.from_residual-in_err-after.result c.in_err-after.field-0.0 c.from_residual-in_err-after.ensures.1
    c.in_err-after.ensures.fails

pub returns-clause-parses : goal.returns-clause-parses
returns-clause-parses c =
    found_preceded _ OneFunctionality c.args.tokens.now c.in_ok-rest.rest.now c.in_ok-after.after.now c.in_ok-rest.field-0-0 _
    c.in_ok-rest.ensures.parses.0 c.in_ok-rest.ensures.parses.1
    (found_declared c.in_ok-rest.rest.now c.in_ok-after.after.now c.in_ok-after.field-0-0 _ c.in_ok-after.ensures.parses.0
    (never_exits c.in_ok-after.ensures.parses.1))
