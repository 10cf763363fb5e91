use Rattle.std.proofs.Common.{◌∙◌, ap, Some}
use Rattle.lotos_text.specs.Grammar.{enable_sign, disable_sign, interleave_sign, full_sign, choice_sign}
use Rattle.lotos_text.specs.Phrases.{OneOperator, SyncList}
use Rattle.lotos_text.proofs.ParseErrors.{passed_on}
use Rattle.lotos_text.proofs.SyncLists.{is_mark, found_sign, found_sync, lost_sync}
use Rattle.lotos_text.proofs.operators.parse_operator.Goals as goal

pub returns-in-Enable-clause-parses : goal.returns-in-Enable-clause-parses
returns-in-Enable-clause-parses c =
    rw c.in-Enable.is (found_sign c.args.text.now c.args.first c.args.tokens.now
    (enable_sign (is_mark c.args.first _ (c.requires.begins ∙ ap Some c.in-Enable.is))))

pub returns-in-Disable-clause-parses : goal.returns-in-Disable-clause-parses
returns-in-Disable-clause-parses c =
    rw c.in-Disable.is (found_sign c.args.text.now c.args.first c.args.tokens.now
    (disable_sign (is_mark c.args.first _ (c.requires.begins ∙ ap Some c.in-Disable.is))))

pub returns-in-Interleave-clause-parses : goal.returns-in-Interleave-clause-parses
returns-in-Interleave-clause-parses c =
    rw (c.in-Interleave.is, c.new-none.ensures.items) (found_sign c.args.text.now c.args.first c.args.tokens.now
    (interleave_sign (is_mark c.args.first _ (c.requires.begins ∙ ap Some c.in-Interleave.is))))

pub returns-in-Full-clause-parses : goal.returns-in-Full-clause-parses
returns-in-Full-clause-parses c =
    rw c.in-Full.is (found_sign c.args.text.now c.args.first c.args.tokens.now
    (full_sign (is_mark c.args.first _ (c.requires.begins ∙ ap Some c.in-Full.is))))

pub returns-in_err-gates-in-Sync-clause-fails : goal.returns-in_err-gates-in-Sync-clause-fails
returns-in_err-gates-in-Sync-clause-fails c =
    rw c.in-Sync.is (passed_on (SyncList c.args.text.now) (OneOperator c.args.text.now _) c.args.tokens.now _
    (λ at. lost_sync c.args.text.now c.args.first c.args.tokens.now at
    (is_mark c.args.first _ (c.requires.begins ∙ ap Some c.in-Sync.is)))
    c.from_residual.result c.in_err-gates-in-Sync.field-0.0 c.from_residual.ensures.1 c.in_err-gates-in-Sync.ensures.fails)

pub returns-in_ok-gates-in-Sync-clause-parses : goal.returns-in_ok-gates-in-Sync-clause-parses
returns-in_ok-gates-in-Sync-clause-parses c =
    rw c.in-Sync.is (found_sync c.args.text.now c.args.first c.args.tokens.now c.in_ok-gates-in-Sync.rest.now _
    (is_mark c.args.first _ (c.requires.begins ∙ ap Some c.in-Sync.is)) c.in_ok-gates-in-Sync.ensures.parses)

pub returns-in-Choice-clause-parses : goal.returns-in-Choice-clause-parses
returns-in-Choice-clause-parses c =
    rw c.in-Choice.is (found_sign c.args.text.now c.args.first c.args.tokens.now
    (choice_sign (is_mark c.args.first _ (c.requires.begins ∙ ap Some c.in-Choice.is))))
