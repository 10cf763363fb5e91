use Rattle.std.proofs.Common.{sym, subst}
use Rattle.lotos_text.specs.ParserContracts.{Parses}
use Rattle.lotos_text.specs.Phrases.{OneToken, NameList, SyncList}
use Rattle.lotos_text.proofs.ParseErrors.{missed_on, passed_on}
use Rattle.lotos_text.proofs.SyncLists.{found_no_sync, found_some_sync, lost_no_bar, lost_listed, lost_unbracketed, lost_unbarred}
use Rattle.lotos_text.proofs.operators.parse_sync_list.Goals as goal

pub returns-in_err-rest-in-Some-clause-fails : goal.returns-in_err-rest-in-Some-clause-fails
returns-in_err-rest-in-Some-clause-fails c =
    missed_on (OneToken _) (SyncList c.args.text.now) c.in-Some.rest.now c.args.tokens.now
    (λ at. lost_no_bar c.args.text.now c.args.tokens.now c.in-Some.rest.now at c.in-Some.field-0-0 c.in-Some.ensures.some.0
    c.in-Some.ensures.some.1)
    c.from_residual.result c.in_err-rest-in-Some.field-0.0 c.from_residual.ensures.1 c.in_err-rest-in-Some.ensures.fails

pub returns-in_err-gates-in-None-clause-fails : goal.returns-in_err-gates-in-None-clause-fails
returns-in_err-gates-in-None-clause-fails c =
    passed_on (NameList c.args.text.now) (SyncList c.args.text.now) c.args.tokens.now c.args.tokens.now
    (λ at. lost_listed c.args.text.now c.args.tokens.now at c.in-None.ensures.none)
    c.from_residual-in_err-gates-in-None.result c.in_err-gates-in-None.field-0.0 c.from_residual-in_err-gates-in-None.ensures.1
    c.in_err-gates-in-None.ensures.fails

pub returns-in_err-rest-in-None-clause-fails : goal.returns-in_err-rest-in-None-clause-fails
returns-in_err-rest-in-None-clause-fails c =
    missed_on (OneToken _) (SyncList c.args.text.now) c.in_ok-gates-in-None.rest.now c.args.tokens.now
    (λ at. lost_unbracketed c.args.text.now c.args.tokens.now c.in_ok-gates-in-None.rest.now at _ c.in-None.ensures.none
    c.in_ok-gates-in-None.ensures.parses)
    c.from_residual-in_err-rest-in-None.result c.in_err-rest-in-None.field-0.0 c.from_residual-in_err-rest-in-None.ensures.1
    c.in_err-rest-in-None.ensures.fails

pub returns-in_err-rest-in-None-2-clause-fails : goal.returns-in_err-rest-in-None-2-clause-fails
returns-in_err-rest-in-None-2-clause-fails c =
    missed_on (OneToken _) (SyncList c.args.text.now) c.in_ok-rest-in-None.rest.now c.args.tokens.now
    (λ at. lost_unbarred c.args.text.now c.args.tokens.now c.in_ok-gates-in-None.rest.now c.in_ok-rest-in-None.rest.now at
    c.in_ok-rest-in-None.field-0-0 _ c.in-None.ensures.none c.in_ok-gates-in-None.ensures.parses
    c.in_ok-rest-in-None.ensures.parses.0 c.in_ok-rest-in-None.ensures.parses.1)
    c.from_residual-in_err-rest-in-None-2.result c.in_err-rest-in-None-2.field-0.0
    c.from_residual-in_err-rest-in-None-2.ensures.1 c.in_err-rest-in-None-2.ensures.fails

pub returns-in_ok-rest-in-Some-clause-parses : goal.returns-in_ok-rest-in-Some-clause-parses
returns-in_ok-rest-in-Some-clause-parses c =
    subst (λ names. Parses (SyncList c.args.text.now) c.args.tokens.now names c.in_ok-rest-in-Some.rest.now) (sym c.new.ensures.items)
    (found_no_sync c.args.text.now c.args.tokens.now c.in-Some.rest.now c.in_ok-rest-in-Some.rest.now c.in-Some.field-0-0
    c.in_ok-rest-in-Some.field-0-0 c.in-Some.ensures.some.0 c.in-Some.ensures.some.1 c.in_ok-rest-in-Some.ensures.parses.0
    c.in_ok-rest-in-Some.ensures.parses.1)

pub returns-in_ok-rest-in-None-2-clause-parses : goal.returns-in_ok-rest-in-None-2-clause-parses
returns-in_ok-rest-in-None-2-clause-parses c =
    found_some_sync c.args.text.now c.args.tokens.now c.in_ok-gates-in-None.rest.now c.in_ok-rest-in-None.rest.now
    c.in_ok-rest-in-None-2.rest.now c.in_ok-rest-in-None.field-0-0 c.in_ok-rest-in-None-2.field-0-0 _
    c.in_ok-gates-in-None.ensures.parses c.in_ok-rest-in-None.ensures.parses.0 c.in_ok-rest-in-None.ensures.parses.1
    c.in_ok-rest-in-None-2.ensures.parses.0 c.in_ok-rest-in-None-2.ensures.parses.1
