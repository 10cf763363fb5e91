use Rattle.std.proofs.Common.{sym, subst}
use Rattle.lotos_text.specs.ParserContracts.{Parses}
use Rattle.lotos_text.specs.Phrases.{OneToken, NameList, OptionalGates}
use Rattle.lotos_text.proofs.NameLists.{found_no_gates, found_closed, lost_inside, lost_open}
use Rattle.lotos_text.proofs.ParseErrors.{missed_on, passed_on}
use Rattle.lotos_text.proofs.parse_primitives.parse_gate_list.Goals as goal

pub returns-in_default-clause-parses : goal.returns-in_default-clause-parses
returns-in_default-clause-parses c =
    subst (λ names. Parses (OptionalGates c.args.text.now) c.args.tokens.now names c.args.tokens.now) (sym c.new.ensures.items)
    (found_no_gates c.args.text.now c.args.tokens.now c.in_default.ensures.none)

pub returns-in_err-gates-clause-fails : goal.returns-in_err-gates-clause-fails
returns-in_err-gates-clause-fails c =
    passed_on (NameList c.args.text.now) (OptionalGates c.args.text.now) c.in-Some.inside.now c.args.tokens.now
    (λ at. lost_inside c.args.text.now c.args.tokens.now c.in-Some.inside.now at c.in-Some.field-0-0 c.in-Some.ensures.some.0
    c.in-Some.ensures.some.1)
    c.from_residual.result c.in_err-gates.field-0.0 c.from_residual.ensures.1 c.in_err-gates.ensures.fails

pub returns-in_err-rest-clause-fails : goal.returns-in_err-rest-clause-fails
returns-in_err-rest-clause-fails c =
    missed_on (OneToken _) (OptionalGates c.args.text.now) c.in_ok-gates.rest.now c.args.tokens.now
    (λ at. lost_open c.args.text.now c.args.tokens.now c.in-Some.inside.now c.in_ok-gates.rest.now at c.in-Some.field-0-0 _
    c.in-Some.ensures.some.0 c.in-Some.ensures.some.1 c.in_ok-gates.ensures.parses)
    c.from_residual-in_err-rest.result c.in_err-rest.field-0.0 c.from_residual-in_err-rest.ensures.1 c.in_err-rest.ensures.fails

pub returns-clause-parses : goal.returns-clause-parses
returns-clause-parses c =
    found_closed c.args.text.now c.args.tokens.now c.in-Some.inside.now c.in_ok-gates.rest.now c.in_ok-rest.rest.now
    c.in-Some.field-0-0 c.in_ok-rest.field-0-0 _
    c.in-Some.ensures.some.0 c.in-Some.ensures.some.1 c.in_ok-gates.ensures.parses c.in_ok-rest.ensures.parses.0
    c.in_ok-rest.ensures.parses.1
