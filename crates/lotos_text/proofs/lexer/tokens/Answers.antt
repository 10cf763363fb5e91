use Rattle.std.proofs.Common.{◌+◌, arith, subst, sym}
use Rattle.lotos_text.proofs.LexingSteps.{Reached, token_some, reached_start, reached_blank, reached_comment, reached_token, reached_end, stuck_at_byte, stuck_at_comment}
use Rattle.lotos_text.proofs.TokensInText.{all_stand}
use Rattle.lotos_text.proofs.lexer.tokens.Goals as goal

pub loop-at-init : goal.loop-at-init
loop-at-init c = subst (Reached c.args.text.now 0) (sym c.new-found.ensures.items) (reached_start c.args.text.now)

pub loop-at-preserved-in-Blank : goal.loop-at-preserved-in-Blank
loop-at-preserved-in-Blank c = reached_blank c.args.text.now c.loop-at.at c.loop-at.found.items c.loop-at.invariant c.in-Blank.ensures

pub loop-at-preserved-in-Comment : goal.loop-at-preserved-in-Comment
loop-at-preserved-in-Comment c =
    reached_comment c.args.text.now c.loop-at.at c.in-Comment.length c.loop-at.found.items c.loop-at.invariant c.in-Comment.ensures

pub overflow_add-end : goal.overflow_add-end
overflow_add-end c =
    let next = reached_token c.args.text.now c.loop-at.at c.in-Token.length c.in-Token.kind c.loop-at.found.items c.loop-at.invariant c.in-Token.ensures in
    omega (arith, next.inside, c.if-text-gt-TEXT_LIMIT.false)

pub loop-at-smaller : goal.loop-at-smaller
loop-at-smaller c = let some = token_some c.in-Token.ensures in omega (arith, some, c.loop-at-test.true)

pub loop-at-preserved : goal.loop-at-preserved
loop-at-preserved c =
    let next = reached_token c.args.text.now c.loop-at.at c.in-Token.length c.in-Token.kind c.loop-at.found.items c.loop-at.invariant c.in-Token.ensures in
    subst (Reached c.args.text.now (c.loop-at.at + c.in-Token.length)) (sym c.in_ok-push-in-Token.ensures.items) next

pub returns-in-Unclosed-clause-fails : goal.returns-in-Unclosed-clause-fails
returns-in-Unclosed-clause-fails c = record {
  short = c.if-text-gt-TEXT_LIMIT.false;
  fails = stuck_at_comment c.args.text.now c.loop-at.at c.loop-at.found.items c.loop-at.invariant c.in-Unclosed.ensures;
}

pub returns-in-Unknown-clause-fails : goal.returns-in-Unknown-clause-fails
returns-in-Unknown-clause-fails c = record {
  short = c.if-text-gt-TEXT_LIMIT.false;
  fails = stuck_at_byte c.args.text.now c.loop-at.at c.loop-at.found.items c.loop-at.invariant c.in-Unknown.ensures;
}

pub returns-clause-in_text : goal.returns-clause-in_text
returns-clause-in_text c =
    all_stand c.args.text.now c.loop-at.found.items
    (reached_end c.args.text.now c.loop-at.at c.loop-at.found.items c.loop-at.invariant c.loop-at-test.false)
