use Rattle.std.proofs.Common.{◌∙◌, sym}
use Rattle.lotos_text.proofs.Comments.{none_step, comment_found, comment_open}
use Rattle.lotos_text.proofs.lexer.comment_length.Goals as goal

pub returns-then-starts_with-clause-closed : goal.returns-then-starts_with-clause-closed
returns-then-starts_with-clause-closed c =
    comment_found c.args.text.now c.loop-at.at c.requires c.loop-at.invariant (sym c.starts_with.ensures.value ∙ c.if-starts_with.true)

pub loop-at-preserved : goal.loop-at-preserved
loop-at-preserved c =
    none_step c.args.text.now c.loop-at.at c.loop-at.invariant c.loop-at-test.true (sym c.starts_with.ensures.value ∙ c.if-starts_with.false)

pub returns-clause-open : goal.returns-clause-open
returns-clause-open c = comment_open c.args.text.now c.loop-at.at c.requires c.loop-at.invariant c.loop-at-test.false
