use Rattle.std.proofs.Common.{rules, sym, ◌∙◌, subst, arith}
use Rattle.lotos_text.specs.Grammar.{IsAction, gate, internal, enabling, prefixing}
use Rattle.lotos_text.specs.Phrases.{OneToken, NameList, BehaviourPhrase, OneOperator}
use Rattle.lotos_text.specs.AstOf.{level_view}
use Rattle.lotos_text.specs.declared.ast.Action.TheVariants.{Gate}
use Rattle.lotos_text.proofs.Parenthesized.{found_closed, carries_inside, lost_open, lost_going_on, deep_parenthesis}
use Rattle.lotos_text.proofs.OperandEnds.{unended, found_stop, lost_stop, found_exit, lost_exit, lost_begun}
use Rattle.lotos_text.proofs.FirstToken.{not_first}
use Rattle.lotos_text.proofs.Hidings.{each_level, found_hidden, lost_hidden, lost_unentered, carries_hidden, deep_hide}
use Rattle.lotos_text.proofs.OperandStarts.{is_stop, is_exit, is_internal}
use Rattle.lotos_text.proofs.Operations.{marked, marked_found, marked_lost, found_alone, found_operation, carries_left, lost_operator, carries_right, deep_operation}
use Rattle.lotos_text.proofs.Prefixes.{lost_not_first, found_body, lost_unseparated, carries_body, deep_prefix}
use Rattle.lotos_text.proofs.ParseErrors.{carried_on, freed_on, missed_free}
use Rattle.lotos_text.proofs.behaviour_parser.+expressions.Goals as goal

-- parentheses

pub parse_parenthesized-returns-then-nesting_left-eq0-clause-fails : goal.parse_parenthesized-returns-then-nesting_left-eq0-clause-fails
parse_parenthesized-returns-then-nesting_left-eq0-clause-fails t c =
    deep_parenthesis c.args.text.now c.args.nesting_left c.args.first c.args.tokens.now c.if-nesting_left-eq0.true c.requires.opens

pub parse_parenthesized-returns-in_err-inner-clause-fails : goal.parse_parenthesized-returns-in_err-inner-clause-fails
parse_parenthesized-returns-in_err-inner-clause-fails t c =
    carried_on (BehaviourPhrase c.args.text.now enabling) (BehaviourPhrase c.args.text.now prefixing) _ c.args.nesting_left c.args.tokens.now _
    (carries_inside c.args.text.now c.args.nesting_left c.args.first c.args.tokens.now c.requires.opens)
    c.from_residual.result c.in_err-inner.field-0.0 c.from_residual.ensures.1 c.in_err-inner.ensures.fails

pub parse_parenthesized-returns-in_err-rest-clause-fails : goal.parse_parenthesized-returns-in_err-rest-clause-fails
parse_parenthesized-returns-in_err-rest-clause-fails t c =
    missed_free (OneToken _) (BehaviourPhrase c.args.text.now prefixing) c.args.nesting_left c.in_ok-inner.rest.now _
    (λ rest. lost_open c.args.text.now _ c.args.first c.args.tokens.now c.in_ok-inner.rest.now rest _ c.requires.opens
    c.in_ok-inner.ensures.parses)
    c.from_residual-in_err-rest.result c.in_err-rest.field-0.0 c.from_residual-in_err-rest.ensures.1 c.in_err-rest.ensures.fails

pub parse_parenthesized-returns-in_err-expect_operand_end-clause-fails : goal.parse_parenthesized-returns-in_err-expect_operand_end-clause-fails
parse_parenthesized-returns-in_err-expect_operand_end-clause-fails t c =
    unended c.args.text.now c.args.nesting_left c.in_ok-rest.rest.now _
    (λ rest. lost_going_on c.args.text.now _ c.args.first c.in_ok-rest.field-0-0 c.args.tokens.now c.in_ok-inner.rest.now
    c.in_ok-rest.rest.now rest _ c.requires.opens c.in_ok-inner.ensures.parses c.in_ok-rest.ensures.parses.0
    c.in_ok-rest.ensures.parses.1)
    c.from_residual-in_err-expect_operand_end.result c.in_err-expect_operand_end.field-0.0 c.from_residual-in_err-expect_operand_end.ensures.1
    c.in_err-expect_operand_end.ensures.fails

pub parse_parenthesized-returns-clause-parses : goal.parse_parenthesized-returns-clause-parses
parse_parenthesized-returns-clause-parses t c =
    found_closed c.args.text.now c.args.nesting_left c.args.first c.in_ok-rest.field-0-0 c.args.tokens.now c.in_ok-inner.rest.now
    c.in_ok-rest.rest.now _ (omega arith) c.requires.opens c.in_ok-inner.ensures.parses c.in_ok-rest.ensures.parses.0
    c.in_ok-rest.ensures.parses.1 c.in_ok-expect_operand_end.ensures.whole

-- hide forms

pub parse_hide-returns-then-nesting_left-eq0-clause-fails : goal.parse_hide-returns-then-nesting_left-eq0-clause-fails
parse_hide-returns-then-nesting_left-eq0-clause-fails t c =
    λ level. deep_hide c.args.text.now level c.args.nesting_left c.args.first c.args.tokens.now c.if-nesting_left-eq0.true c.requires.opens

pub parse_hide-returns-in_err-gates-clause-fails : goal.parse_hide-returns-in_err-gates-clause-fails
parse_hide-returns-in_err-gates-clause-fails t c =
    each_level _ c.from_residual.result
    (λ level. freed_on (NameList c.args.text.now) (BehaviourPhrase c.args.text.now level) c.args.nesting_left c.args.tokens.now _
    (λ rest. lost_hidden c.args.text.now level c.args.first c.args.tokens.now rest c.requires.opens)
    c.from_residual.result c.in_err-gates.field-0.0 c.from_residual.ensures.1 c.in_err-gates.ensures.fails)

pub parse_hide-returns-in_err-rest-clause-fails : goal.parse_hide-returns-in_err-rest-clause-fails
parse_hide-returns-in_err-rest-clause-fails t c =
    each_level _ c.from_residual-in_err-rest.result
    (λ level. missed_free (OneToken _) (BehaviourPhrase c.args.text.now level) c.args.nesting_left c.in_ok-gates.rest.now _
    (λ rest. lost_unentered c.args.text.now level c.args.first c.args.tokens.now c.in_ok-gates.rest.now rest _ c.requires.opens
    c.in_ok-gates.ensures.parses)
    c.from_residual-in_err-rest.result c.in_err-rest.field-0.0 c.from_residual-in_err-rest.ensures.1 c.in_err-rest.ensures.fails)

pub parse_hide-returns-in_err-body-clause-fails : goal.parse_hide-returns-in_err-body-clause-fails
parse_hide-returns-in_err-body-clause-fails t c =
    each_level _ c.from_residual-in_err-body.result
    (λ level. carried_on (BehaviourPhrase c.args.text.now enabling) (BehaviourPhrase c.args.text.now level) _ c.args.nesting_left
    c.in_ok-rest.rest.now _
    (carries_hidden c.args.text.now level c.args.nesting_left c.args.first c.in_ok-rest.field-0-0 c.args.tokens.now c.in_ok-gates.rest.now
    c.in_ok-rest.rest.now _ c.requires.opens c.in_ok-gates.ensures.parses c.in_ok-rest.ensures.parses.0
    c.in_ok-rest.ensures.parses.1)
    c.from_residual-in_err-body.result c.in_err-body.field-0.0 c.from_residual-in_err-body.ensures.1 c.in_err-body.ensures.fails)

pub parse_hide-returns-clause-parses : goal.parse_hide-returns-clause-parses
parse_hide-returns-clause-parses t c =
    λ level. found_hidden c.args.text.now level c.args.nesting_left c.args.first c.in_ok-rest.field-0-0 c.args.tokens.now
    c.in_ok-gates.rest.now c.in_ok-rest.rest.now c.in_ok-body.rest.now _ _ _ (omega arith) c.requires.opens
    c.in_ok-gates.ensures.parses c.in_ok-rest.ensures.parses.0 c.in_ok-rest.ensures.parses.1 c.in_ok-body.ensures.parses
    c.in_ok-whole.ensures

-- prefixes

pub parse_prefix-returns-in_err-semicolon-clause-fails : goal.parse_prefix-returns-in_err-semicolon-clause-fails
parse_prefix-returns-in_err-semicolon-clause-fails t c =
    missed_free (OneToken _) (BehaviourPhrase c.args.text.now prefixing) c.args.nesting_left c.args.tokens.now _
    (λ rest l. lost_unseparated c.args.text.now c.args.first c.args.tokens.now rest
    (c.requires.begins (lost_not_first _ c.args.tokens.now rest l)) l)
    c.from_residual.result c.in_err-semicolon.field-0.0 c.from_residual.ensures.1 c.in_err-semicolon.ensures.fails

pub parse_prefix-returns-then-nesting_left-eq0-clause-fails : goal.parse_prefix-returns-then-nesting_left-eq0-clause-fails
parse_prefix-returns-then-nesting_left-eq0-clause-fails t c =
    deep_prefix c.args.text.now c.args.nesting_left c.args.first c.in_ok-semicolon.semicolon c.args.action c.args.tokens.now
    c.in_ok-semicolon.rest.now c.if-nesting_left-eq0.true c.requires.acts c.in_ok-semicolon.ensures.parses.0
    c.in_ok-semicolon.ensures.parses.1

pub parse_prefix-returns-in_err-body-clause-fails : goal.parse_prefix-returns-in_err-body-clause-fails
parse_prefix-returns-in_err-body-clause-fails t c =
    carried_on (BehaviourPhrase c.args.text.now prefixing) (BehaviourPhrase c.args.text.now prefixing) _ c.args.nesting_left
    c.in_ok-semicolon.rest.now _
    (carries_body c.args.text.now c.args.nesting_left c.args.first c.in_ok-semicolon.semicolon c.args.action c.args.tokens.now
    c.in_ok-semicolon.rest.now c.requires.acts c.in_ok-semicolon.ensures.parses.0 c.in_ok-semicolon.ensures.parses.1)
    c.from_residual-in_err-body.result c.in_err-body.field-0.0 c.from_residual-in_err-body.ensures.1 c.in_err-body.ensures.fails

pub parse_prefix-returns-clause-parses : goal.parse_prefix-returns-clause-parses
parse_prefix-returns-clause-parses t c =
    found_body c.args.text.now c.args.nesting_left c.args.first c.in_ok-semicolon.semicolon c.args.action c.args.tokens.now
    c.in_ok-semicolon.rest.now c.in_ok-body.rest.now _ _ (omega arith) c.requires.acts c.in_ok-semicolon.ensures.parses.0
    c.in_ok-semicolon.ensures.parses.1 c.in_ok-body.ensures.parses c.in_ok-whole.ensures

-- operations

pub parse_operation-returns-in_err-left-clause-fails : goal.parse_operation-returns-in_err-left-clause-fails
parse_operation-returns-in_err-left-clause-fails t c =
    carried_on (BehaviourPhrase c.args.text.now (level_view c.args.below)) (BehaviourPhrase c.args.text.now (level_view c.args.level))
    c.args.nesting_left c.args.nesting_left c.args.tokens.now c.args.tokens.now
    (carries_left c.args.text.now c.args.nesting_left c.args.tokens.now c.requires.below)
    c.from_residual.result c.in_err-left.field-0.0 c.from_residual.ensures.1 c.in_err-left.ensures.fails

pub parse_operation-returns-in_default-clause-parses : goal.parse_operation-returns-in_default-clause-parses
parse_operation-returns-in_default-clause-parses t c =
    found_alone c.args.text.now c.args.nesting_left c.args.tokens.now c.in_ok-left.rest.now _ c.requires.below c.in_ok-left.ensures.parses
    c.in_default.ensures.none

pub parse_operation-returns-then-nesting_left-eq0-clause-fails : goal.parse_operation-returns-then-nesting_left-eq0-clause-fails
parse_operation-returns-then-nesting_left-eq0-clause-fails t c =
    deep_operation c.args.text.now c.args.nesting_left c.args.tokens.now c.in_ok-left.rest.now c.in-Some.after.now c.in-Some.first
    c.in-Some.infix _ c.if-nesting_left-eq0.true c.requires.below c.in_ok-left.ensures.parses c.in-Some.ensures.some.0
    c.in-Some.ensures.some.1 c.in-Some.ensures.some.2

pub parse_operation-returns-in_err-operator-clause-fails : goal.parse_operation-returns-in_err-operator-clause-fails
parse_operation-returns-in_err-operator-clause-fails t c =
    freed_on (OneOperator c.args.text.now _) (BehaviourPhrase c.args.text.now (level_view c.args.level)) c.args.nesting_left _ c.args.tokens.now
    (λ rest l. lost_operator c.args.text.now _ c.args.tokens.now c.in_ok-left.rest.now rest _ c.requires.below
    c.in_ok-left.ensures.parses
    (marked c.in_ok-left.rest.now c.in-Some.after.now c.in-Some.first c.in-Some.infix c.in-Some.ensures.some.0
    c.in-Some.ensures.some.1 c.in-Some.ensures.some.2)
    (marked_lost c.args.text.now c.in_ok-left.rest.now _ rest c.in-Some.ensures.some.0 c.in-Some.ensures.some.2 l))
    c.from_residual-in_err-operator.result c.in_err-operator.field-0.0 c.from_residual-in_err-operator.ensures.1 c.in_err-operator.ensures.fails

pub parse_operation-returns-in_err-right-clause-fails : goal.parse_operation-returns-in_err-right-clause-fails
parse_operation-returns-in_err-right-clause-fails t c =
    carried_on (BehaviourPhrase c.args.text.now (level_view c.args.level)) (BehaviourPhrase c.args.text.now (level_view c.args.level))
    _ c.args.nesting_left c.in_ok-operator.rest.now c.args.tokens.now
    (carries_right c.args.text.now c.args.nesting_left c.args.tokens.now c.in_ok-left.rest.now c.in_ok-operator.rest.now _ _ c.requires.below
    c.in_ok-left.ensures.parses
    (marked c.in_ok-left.rest.now c.in-Some.after.now c.in-Some.first c.in-Some.infix c.in-Some.ensures.some.0
    c.in-Some.ensures.some.1 c.in-Some.ensures.some.2)
    (marked_found c.args.text.now c.in_ok-left.rest.now _ c.in_ok-operator.rest.now _ c.in-Some.ensures.some.0
    c.in-Some.ensures.some.2 c.in_ok-operator.ensures.parses))
    c.from_residual-in_err-right.result c.in_err-right.field-0.0 c.from_residual-in_err-right.ensures.1
    c.in_err-right.ensures.fails

pub parse_operation-returns-clause-parses : goal.parse_operation-returns-clause-parses
parse_operation-returns-clause-parses t c =
    found_operation c.args.text.now c.args.nesting_left c.args.tokens.now c.in_ok-left.rest.now c.in_ok-operator.rest.now
    c.in_ok-right.rest.now _ _ _ _ (omega arith) c.requires.below c.in_ok-left.ensures.parses
    (marked_found c.args.text.now c.in_ok-left.rest.now _ c.in_ok-operator.rest.now _ c.in-Some.ensures.some.0
    c.in-Some.ensures.some.2 c.in_ok-operator.ensures.parses)
    c.in_ok-right.ensures.parses c.in_ok-whole.ensures

-- names

pub parse_named-parse_prefix-requires : goal.parse_named-parse_prefix-requires
parse_named-parse_prefix-requires t c = (
  search rules,
  (
    subst (λ p. IsAction c.args.text.now c.args.first (Gate p)) (sym c.in_ok-name.ensures) (gate c.requires.named),
    (
      (λ absent. absurd (not_first _ c.args.tokens.now _ absent c.in-Some.ensures.some.1 c.in-Some.ensures.some.0)),
      search rules,
    ),
  ),
)

-- operands

pub parse_operand-parse_prefix-requires : goal.parse_operand-parse_prefix-requires
parse_operand-parse_prefix-requires t c =
    let first = is_internal c.in-Some.first (sym c.operand_start.ensures ∙ c.in-Internal.is) in
    (search rules, (internal first, ((λ absent. first), search rules)))

pub parse_operand-returns-in_err-expect_operand_end-in-Stop-clause-fails : goal.parse_operand-returns-in_err-expect_operand_end-in-Stop-clause-fails
parse_operand-returns-in_err-expect_operand_end-in-Stop-clause-fails t c =
    rw c.in-Some.ensures (unended c.args.text.now c.args.nesting_left c.in-Some.rest.now _
    (λ rest. lost_stop c.args.text.now c.in-Some.first c.in-Some.rest.now rest
    (is_stop c.in-Some.first (sym c.operand_start.ensures ∙ c.in-Stop.is)))
    c.from_residual.result c.in_err-expect_operand_end-in-Stop.field-0.0 c.from_residual.ensures.1 c.in_err-expect_operand_end-in-Stop.ensures.fails)

pub parse_operand-returns-in_err-expect_operand_end-in-Exit-clause-fails : goal.parse_operand-returns-in_err-expect_operand_end-in-Exit-clause-fails
parse_operand-returns-in_err-expect_operand_end-in-Exit-clause-fails t c =
    rw c.in-Some.ensures (unended c.args.text.now c.args.nesting_left c.in-Some.rest.now _
    (λ rest. lost_exit c.args.text.now c.in-Some.first c.in-Some.rest.now rest
    (is_exit c.in-Some.first (sym c.operand_start.ensures ∙ c.in-Exit.is)))
    c.from_residual-in_err-expect_operand_end-in-Exit.result c.in_err-expect_operand_end-in-Exit.field-0.0
    c.from_residual-in_err-expect_operand_end-in-Exit.ensures.1
    c.in_err-expect_operand_end-in-Exit.ensures.fails)

pub parse_operand-returns-in_ok-whole-in-Stop-clause-parses : goal.parse_operand-returns-in_ok-whole-in-Stop-clause-parses
parse_operand-returns-in_ok-whole-in-Stop-clause-parses t c =
    rw (c.in-Some.ensures, c.in_ok-whole-in-Stop.ensures) (found_stop c.args.text.now c.args.nesting_left c.in-Some.first c.in-Some.rest.now
    (is_stop c.in-Some.first (sym c.operand_start.ensures ∙ c.in-Stop.is)) c.in_ok-expect_operand_end-in-Stop.ensures.whole)

pub parse_operand-returns-in_ok-whole-in-Exit-clause-parses : goal.parse_operand-returns-in_ok-whole-in-Exit-clause-parses
parse_operand-returns-in_ok-whole-in-Exit-clause-parses t c =
    rw (c.in-Some.ensures, c.in_ok-whole-in-Exit.ensures) (found_exit c.args.text.now c.args.nesting_left c.in-Some.first c.in-Some.rest.now
    (is_exit c.in-Some.first (sym c.operand_start.ensures ∙ c.in-Exit.is)) c.in_ok-expect_operand_end-in-Exit.ensures.whole)

pub parse_operand-returns-in-Nothing-clause-fails : goal.parse_operand-returns-in-Nothing-clause-fails
parse_operand-returns-in-Nothing-clause-fails t c =
    let shown = rw c.in-Some.ensures at c.requires.no_hide in
    rw c.in-Some.ensures (lost_begun c.args.text.now c.in-Some.first c.in-Some.rest.now
    (sym c.operand_start.ensures ∙ c.in-Nothing.is) shown)
