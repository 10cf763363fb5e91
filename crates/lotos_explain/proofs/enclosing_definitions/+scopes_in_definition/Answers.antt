use Rattle.std.specs.Prelude.{map}
use Rattle.std.proofs.Common.{◌∙◌, ap}
use Rattle.lotos_text.specs.AstView.{inner_of}
use Rattle.lotos_text.specs.AstOf.{definition_view, definitions_view}
use Rattle.lotos_check.specs.Scope.{within}
use Rattle.lotos_text.proofs.DefinitionParts.{inner_shown}
use Rattle.lotos_explain.proofs.DefinitionScopes.{continues_all, continues_next, continues_here}
use Rattle.lotos_explain.proofs.EnclosingDefinitions.{scopes_here, scopes_deeper, enclosing_inside}
use Rattle.lotos_explain.proofs.enclosing_definitions.+scopes_in_definition.Goals as goal

pub returns-then-definition-at : goal.returns-then-definition-at
returns-then-definition-at t c = λ scope first h.
    scopes_here (map (λ x. definition_view x.now) c.in_ok-scopes.scopes.items) (map (λ x. definition_view x.now) c.args.outer.now)
    (definition_view c.args.definition.now) first scope c.in_ok-scopes.ensures h

pub loop-inner-init : goal.loop-inner-init
loop-inner-init t c = λ scope first.
    let of = c.args.definition.now in
    continues_all scope first (inner_of (definition_view of)) (definitions_view c.deref-inner-items.result.now)
    (ap definitions_view c.deref-inner-items.ensures.value ∙ inner_shown of)

pub returns-in-Some : goal.returns-in-Some
returns-in-Some t c = λ scope first h.
    let d = definition_view c.args.definition.now in
    let w = within d first scope in
    let items = c.deref-inner-items.result.now in
    let item = c.inner-item.result in
    let around = enclosing_inside (map (λ x. definition_view x.now) c.in_ok-scopes.scopes.items) (map (λ x. definition_view x.now) c.args.outer.now)
    d first scope c.in_ok-scopes.ensures h in
    let (k, f) = continues_here items c.loop-inner.inner-index item c.loop-inner-test.true c.inner-item.is w first (inner_of d)
    (c.loop-inner.invariant w first) in
    scopes_deeper scope first k d (definition_view item) (map (λ x. definition_view x.now) c.in-Some.found.items) f
    (rw c.in-Some.is at (c.in_ok-found.ensures w k (rw c.as_slice.ensures.value around)))

pub loop-inner-preserved : goal.loop-inner-preserved
loop-inner-preserved t c = λ scope first.
    let d = definition_view c.args.definition.now in
    continues_next c.deref-inner-items.result.now c.loop-inner.inner-index c.inner-item.result c.loop-inner-test.true c.inner-item.is
    scope first (inner_of d) (c.loop-inner.invariant scope first)
