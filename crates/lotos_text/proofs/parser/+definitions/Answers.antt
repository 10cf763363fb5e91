use Rattle.std.proofs.Common.{rules, ◌-◌, List, [], ◌∷◌, ◌++◌, map, Some, None, sym, ap, arith, length, subst}
use Rattle.lotos_text.specs.Grammar.{IsOfKind, enabling, a_process}
use Rattle.lotos_text.specs.ParserContracts.{Parses, Fails}
use Rattle.lotos_text.specs.Phrases.{OneToken, BehaviourPhrase, DefinitionRest, HeaderPhrase, WherePhrase, DefinitionList}
use Rattle.lotos_text.specs.AstView.{DefinitionView, DefinitionListView}
use Rattle.lotos_text.specs.AstOf.{definition_list_view, definition_kind_view, definition_view, definitions_view}
use Rattle.lotos_text.specs.declared.token.TokenKind.TheVariants.{Reserved}
use Rattle.lotos_text.specs.declared.token.Word.TheVariants as w
use Rattle.lotos_text.specs.declared.ast.Definition.{Definition}
use Rattle.lotos_text.proofs.DefinitionRests.{found_body, found_contents, lost_header, lost_sign, lost_closing, carries_behaviour, carries_inner}
use Rattle.lotos_text.proofs.DefinitionLists.{found_last_process, found_more_processes, lost_word, carries_process, carries_more, carries_all, deep_process, found_no_inner, found_inner, carries_row}
use Rattle.lotos_text.proofs.ParseErrors.{freed_on, missed_free, carried_on, deeper_on, still_found, still_carried, carries_further}
use Rattle.lotos_text.proofs.AstViews.{seen, seen_pushed, seen_row}
use Rattle.lotos_text.proofs.parser.+definitions.Goals as goal

-- a definition after its first keyword

pub parse_definition_rest-returns-in_err-heading-clause-fails : goal.parse_definition_rest-returns-in_err-heading-clause-fails
parse_definition_rest-returns-in_err-heading-clause-fails t c =
    freed_on (HeaderPhrase c.args.text.now) (DefinitionRest c.args.text.now (definition_kind_view c.args.kind)) c.args.nesting_left c.args.tokens.now
    c.args.tokens.now
    (λ at. lost_header c.args.text.now (definition_kind_view c.args.kind) None c.args.tokens.now at)
    c.from_residual.result c.in_err-heading.field-0.0 c.from_residual.ensures.1 c.in_err-heading.ensures.fails

pub parse_definition_rest-returns-in_err-rest-clause-fails : goal.parse_definition_rest-returns-in_err-rest-clause-fails
parse_definition_rest-returns-in_err-rest-clause-fails t c =
    missed_free (OneToken c.defining_sign.result) (DefinitionRest c.args.text.now (definition_kind_view c.args.kind)) c.args.nesting_left
    c.in_ok-heading.rest.now c.args.tokens.now
    (λ at l. lost_sign c.args.text.now (definition_kind_view c.args.kind) None c.args.tokens.now c.in_ok-heading.rest.now at _
    c.in_ok-heading.ensures.parses (subst (λ k. Fails (OneToken k) c.in_ok-heading.rest.now at) c.defining_sign.ensures l))
    c.from_residual-in_err-rest.result c.in_err-rest.field-0.0 c.from_residual-in_err-rest.ensures.1 c.in_err-rest.ensures.fails

pub parse_definition_rest-returns-in_err-body-clause-fails : goal.parse_definition_rest-returns-in_err-body-clause-fails
parse_definition_rest-returns-in_err-body-clause-fails t c =
    carried_on (BehaviourPhrase c.args.text.now enabling) (DefinitionRest c.args.text.now (definition_kind_view c.args.kind)) c.args.nesting_left
    c.args.nesting_left
    c.in_ok-rest.rest.now c.args.tokens.now
    (carries_behaviour c.args.text.now (definition_kind_view c.args.kind) c.args.nesting_left c.args.tokens.now c.in_ok-heading.rest.now
    c.in_ok-rest.rest.now c.in_ok-rest.field-0-0 _ c.in_ok-heading.ensures.parses c.in_ok-rest.ensures.parses.0
    (subst (λ k. IsOfKind c.in_ok-rest.field-0-0 k) c.defining_sign.ensures c.in_ok-rest.ensures.parses.1))
    c.from_residual-in_err-body.result c.in_err-body.field-0.0 c.from_residual-in_err-body.ensures.1 c.in_err-body.ensures.fails

pub parse_definition_rest-parse_where-requires : goal.parse_definition_rest-parse_where-requires
parse_definition_rest-parse_where-requires t c =
    let i = c.in_ok-heading.ensures.shorter in
    let j = ap length c.in_ok-rest.ensures.parses.0 in
    let k = c.in_ok-body.ensures.shorter in
    let h = c.decreases in
    (omega (arith, h, i, j, k), c.in_ok-body.ensures.rest)

pub parse_definition_rest-returns-in_err-inner-clause-fails : goal.parse_definition_rest-returns-in_err-inner-clause-fails
parse_definition_rest-returns-in_err-inner-clause-fails t c =
    let what = definition_kind_view c.args.kind in
    let body =
    found_body c.args.text.now what (Some c.args.nesting_left) c.in_ok-heading.rest.now c.in_ok-rest.rest.now c.in_ok-body.rest.now
    c.in_ok-rest.field-0-0 _ c.in_ok-rest.ensures.parses.0
    (subst (λ k. IsOfKind c.in_ok-rest.field-0-0 k) c.defining_sign.ensures c.in_ok-rest.ensures.parses.1) c.in_ok-body.ensures.parses in
    carried_on (WherePhrase c.args.text.now) (DefinitionRest c.args.text.now what) c.args.nesting_left c.args.nesting_left
    c.in_ok-body.rest.now c.args.tokens.now
    (carries_inner c.args.text.now what c.args.nesting_left c.args.tokens.now c.in_ok-heading.rest.now c.in_ok-body.rest.now _ _
    c.in_ok-heading.ensures.parses body)
    c.from_residual-in_err-inner.result c.in_err-inner.field-0.0 c.from_residual-in_err-inner.ensures.1
    c.in_err-inner.ensures.fails

pub parse_definition_rest-returns-in_err-rest-2-clause-fails : goal.parse_definition_rest-returns-in_err-rest-2-clause-fails
parse_definition_rest-returns-in_err-rest-2-clause-fails t c =
    let what = definition_kind_view c.args.kind in
    let body =
    found_body c.args.text.now what (Some c.args.nesting_left) c.in_ok-heading.rest.now c.in_ok-rest.rest.now c.in_ok-body.rest.now
    c.in_ok-rest.field-0-0 _ c.in_ok-rest.ensures.parses.0
    (subst (λ k. IsOfKind c.in_ok-rest.field-0-0 k) c.defining_sign.ensures c.in_ok-rest.ensures.parses.1) c.in_ok-body.ensures.parses in
    missed_free (OneToken c.closing_word.result) (DefinitionRest c.args.text.now what) c.args.nesting_left c.in_ok-inner.rest.now c.args.tokens.now
    (λ at l. lost_closing c.args.text.now what (Some c.args.nesting_left) None c.args.tokens.now c.in_ok-heading.rest.now
    c.in_ok-body.rest.now c.in_ok-inner.rest.now at _ _ _ c.in_ok-heading.ensures.parses body c.in_ok-inner.ensures.parses
    (subst (λ k. Fails (OneToken k) c.in_ok-inner.rest.now at) c.closing_word.ensures l))
    c.from_residual-in_err-rest-2.result c.in_err-rest-2.field-0.0 c.from_residual-in_err-rest-2.ensures.1
    c.in_err-rest-2.ensures.fails

pub parse_definition_rest-returns-clause-parses : goal.parse_definition_rest-returns-clause-parses
parse_definition_rest-returns-clause-parses t c =
    let what = definition_kind_view c.args.kind in
    let body =
    found_body c.args.text.now what (Some c.args.nesting_left) c.in_ok-heading.rest.now c.in_ok-rest.rest.now c.in_ok-body.rest.now
    c.in_ok-rest.field-0-0 _ c.in_ok-rest.ensures.parses.0
    (subst (λ k. IsOfKind c.in_ok-rest.field-0-0 k) c.defining_sign.ensures c.in_ok-rest.ensures.parses.1) c.in_ok-body.ensures.parses in
    rw c.into_inner.ensures (subst (λ d. Parses (DefinitionRest c.args.text.now what (Some c.args.nesting_left)) c.args.tokens.now d c.in_ok-rest-2.rest.now)
    (sym (seen _))
    (found_contents c.args.text.now what (Some c.args.nesting_left) c.args.tokens.now c.in_ok-heading.rest.now c.in_ok-body.rest.now
    c.in_ok-inner.rest.now c.in_ok-rest-2.rest.now c.in_ok-rest-2.field-0-0 _ _ _ c.in_ok-heading.ensures.parses body
    c.in_ok-inner.ensures.parses c.in_ok-rest-2.ensures.parses.0
    (subst (λ k. IsOfKind c.in_ok-rest-2.field-0-0 k) c.closing_word.ensures c.in_ok-rest-2.ensures.parses.1)))

-- inner definitions

pub parse_where-parse_definitions-requires : goal.parse_where-parse_definitions-requires
parse_where-parse_definitions-requires t c =
    let i = ap length c.in-Some.ensures.some.0 in
    let h = c.decreases in
    (omega (arith, h, i), search rules)

pub parse_where-returns-in-Some-clause-parses : goal.parse_where-returns-in-Some-clause-parses
parse_where-returns-in-Some-clause-parses t c =
    still_found _ _ c.parse_definitions.result
    (λ p f. found_inner c.args.text.now (Some c.args.nesting_left) c.args.tokens.now c.in-Some.rest.now p.1.now c.in-Some.field-0-0
    (definitions_view p.0.items) c.in-Some.ensures.some.0 c.in-Some.ensures.some.1 f)
    c.parse_definitions.ensures.parses

pub parse_where-returns-in-Some-clause-fails : goal.parse_where-returns-in-Some-clause-fails
parse_where-returns-in-Some-clause-fails t c =
    still_carried (DefinitionList c.args.text.now) (WherePhrase c.args.text.now) c.args.nesting_left c.args.nesting_left c.in-Some.rest.now c.args.tokens.now
    (carries_row c.args.text.now c.args.nesting_left c.args.tokens.now c.in-Some.rest.now c.in-Some.field-0-0 c.in-Some.ensures.some.0
    c.in-Some.ensures.some.1)
    c.parse_definitions.result c.parse_definitions.ensures.fails

pub parse_where-returns-in-None-clause-parses : goal.parse_where-returns-in-None-clause-parses
parse_where-returns-in-None-clause-parses t c =
    subst (λ ds. Parses (WherePhrase c.args.text.now (Some c.args.nesting_left)) c.args.tokens.now (definitions_view ds) c.args.tokens.now)
    (sym c.new.ensures.items)
    (found_no_inner c.args.text.now (Some c.args.nesting_left) c.args.tokens.now c.in-None.ensures.none)

-- lists of definitions

pub parse_definitions-loop-found-init : goal.parse_definitions-loop-found-init
parse_definitions-loop-found-init t c = record {
  stand = c.requires;
  left = omega arith;
  finds = λ ds remainder f.
      subst (λ (items : List Definition). Parses (DefinitionList c.args.text.now (Some c.args.nesting_left)) c.args.tokens.now
      (definition_list_view (map definition_view items ++ ds)) remainder) (sym c.new-found.ensures.items) f;
  carries = carries_all c.args.text.now c.args.nesting_left c.args.tokens.now;
}

pub parse_definitions-returns-in_err-word-clause-fails : goal.parse_definitions-returns-in_err-word-clause-fails
parse_definitions-returns-in_err-word-clause-fails t c =
    missed_free (OneToken (Reserved w.ProcessWord)) (DefinitionList c.args.text.now) c.args.nesting_left c.loop-found.rest.now c.args.tokens.now
    (λ at l. c.loop-found.invariant.carries.free at (lost_word c.args.text.now None c.loop-found.rest.now at l))
    c.from_residual.result c.in_err-word.field-0.0 c.from_residual.ensures.1 c.in_err-word.ensures.fails

pub parse_definitions-returns-then-nesting_left-eq0-clause-fails : goal.parse_definitions-returns-then-nesting_left-eq0-clause-fails
parse_definitions-returns-then-nesting_left-eq0-clause-fails t c =
    deeper_on (DefinitionList c.args.text.now) (DefinitionList c.args.text.now) c.args.nesting_left c.args.nesting_left c.loop-found.rest.now c.args.tokens.now
    c.loop-found.invariant.carries c.in_ok-word.word
    (deep_process c.args.text.now c.args.nesting_left c.loop-found.rest.now c.in_ok-word.after.now c.in_ok-word.word
    (let h = c.if-nesting_left-eq0.true in omega (arith, h)) c.in_ok-word.ensures.parses.0 c.in_ok-word.ensures.parses.1)

pub parse_definitions-parse_definition_rest-requires : goal.parse_definitions-parse_definition_rest-requires
parse_definitions-parse_definition_rest-requires t c =
    let i = ap length c.in_ok-word.ensures.parses.0 in
    let j = c.loop-found.invariant.left in
    let k = c.loop-found.invariant.stand in
    let h = c.decreases in
    (omega (arith, h, i, j), search rules)

pub parse_definitions-returns-in_err-one-clause-fails : goal.parse_definitions-returns-in_err-one-clause-fails
parse_definitions-returns-in_err-one-clause-fails t c =
    carried_on (DefinitionRest c.args.text.now a_process) (DefinitionList c.args.text.now) (c.args.nesting_left - 1) c.args.nesting_left c.in_ok-word.after.now
    c.args.tokens.now
    (carries_further (DefinitionRest c.args.text.now a_process) (DefinitionList c.args.text.now) (DefinitionList c.args.text.now)
    (c.args.nesting_left - 1) c.args.nesting_left
    c.args.nesting_left c.in_ok-word.after.now c.loop-found.rest.now c.args.tokens.now
    (carries_process c.args.text.now (c.args.nesting_left - 1) c.args.nesting_left c.loop-found.rest.now c.in_ok-word.after.now c.in_ok-word.word
    (let h = c.if-nesting_left-eq0.false in omega (arith, h)) c.in_ok-word.ensures.parses.0 c.in_ok-word.ensures.parses.1)
    c.loop-found.invariant.carries)
    c.from_residual-in_err-one.result c.in_err-one.field-0.0 c.from_residual-in_err-one.ensures.1 c.in_err-one.ensures.fails

pub parse_definitions-returns-in_default-clause-parses : goal.parse_definitions-returns-in_default-clause-parses
parse_definitions-returns-in_default-clause-parses t c =
    subst (λ (ds : DefinitionListView). Parses (DefinitionList c.args.text.now (Some c.args.nesting_left)) c.args.tokens.now ds c.in_ok-one.remainder.now)
    (sym (seen_row c.push.new.self.items c.loop-found.found.items c.in_ok-one.one c.in_ok-push.ensures.items))
    (c.loop-found.invariant.finds (definition_view c.in_ok-one.one ∷ []) c.in_ok-one.remainder.now
    (found_last_process c.args.text.now (c.args.nesting_left - 1) c.args.nesting_left c.loop-found.rest.now c.in_ok-word.after.now
    c.in_ok-one.remainder.now c.in_ok-word.word (definition_view c.in_ok-one.one) (let h = c.if-nesting_left-eq0.false in omega (arith, h))
    c.in_ok-word.ensures.parses.0 c.in_ok-word.ensures.parses.1 c.in_ok-one.ensures.parses c.in_default.ensures.none))

pub parse_definitions-returns-in_default-clause-shorter : goal.parse_definitions-returns-in_default-clause-shorter
parse_definitions-returns-in_default-clause-shorter t c =
    let i = ap length c.in_ok-word.ensures.parses.0 in
    let j = c.loop-found.invariant.left in
    let k = c.in_ok-one.ensures.shorter in
    omega (arith, i, j, k)

pub parse_definitions-loop-found-smaller : goal.parse_definitions-loop-found-smaller
parse_definitions-loop-found-smaller t c =
    let i = ap length c.in_ok-word.ensures.parses.0 in
    let k = c.in_ok-one.ensures.shorter in
    omega (arith, i, k)

pub parse_definitions-loop-found-preserved : goal.parse_definitions-loop-found-preserved
parse_definitions-loop-found-preserved t c = record {
  stand = c.in_ok-one.ensures.rest;
  left =
      let i = ap length c.in_ok-word.ensures.parses.0 in
      let j = c.loop-found.invariant.left in
      let k = c.in_ok-one.ensures.shorter in
      omega (arith, i, j, k);
  finds = λ ds remainder f.
      subst (λ (l : List DefinitionView). Parses (DefinitionList c.args.text.now (Some c.args.nesting_left)) c.args.tokens.now (definition_list_view l)
      remainder)
      (sym (seen_pushed c.push.new.self.items c.loop-found.found.items c.in_ok-one.one ds c.in_ok-push.ensures.items))
      (c.loop-found.invariant.finds (definition_view c.in_ok-one.one ∷ ds) remainder
      (found_more_processes c.args.text.now (c.args.nesting_left - 1) c.args.nesting_left c.loop-found.rest.now c.in_ok-word.after.now
      c.in_ok-one.remainder.now remainder c.in_ok-word.word (definition_view c.in_ok-one.one) (definition_list_view ds)
      (let h = c.if-nesting_left-eq0.false in omega (arith, h)) c.in_ok-word.ensures.parses.0 c.in_ok-word.ensures.parses.1
      c.in_ok-one.ensures.parses f));
  carries = carries_further (DefinitionList c.args.text.now) (DefinitionList c.args.text.now) (DefinitionList c.args.text.now) c.args.nesting_left
      c.args.nesting_left c.args.nesting_left
      c.in_ok-one.remainder.now c.loop-found.rest.now c.args.tokens.now
      (carries_more c.args.text.now (c.args.nesting_left - 1) c.args.nesting_left c.loop-found.rest.now c.in_ok-word.after.now
      c.in_ok-one.remainder.now c.in-Some.field-0.1.now c.in_ok-word.word c.in-Some.field-0.0 (definition_view c.in_ok-one.one)
      c.in_ok-word.ensures.parses.0 c.in_ok-word.ensures.parses.1 c.in_ok-one.ensures.parses c.in-Some.ensures.some.0
      c.in-Some.ensures.some.1)
      c.loop-found.invariant.carries;
}
