use Rattle.std.proofs.Common.{◌∙◌, ap}
use Rattle.lotos_text.specs.AstView.{formals_of, inner_of}
use Rattle.lotos_text.specs.AstOf.{definition_view, definitions_view}
use Rattle.lotos_check.specs.NameLists.{texts}
use Rattle.lotos_check.specs.Scope.{within}
use Rattle.lotos_text.proofs.DefinitionParts.{body_shown, inner_shown}
use Rattle.lotos_explain.proofs.DefinitionScopes.{continues_all, continues_next, continues_here}
use Rattle.lotos_explain.proofs.InnerGates.{hides_here, hides_inside}
use Rattle.lotos_explain.proofs.inner_gates.+hidden_in_definition.Goals as goal

pub returns-in-Some : goal.returns-in-Some
returns-in-Some t c = λ scope first.
    let of = c.args.definition.now in
    let d = definition_view of in
    let found = rw c.in-Some.is at (c.hidden_in_behaviour.ensures (texts (formals_of d))) in
    hides_here scope first d c.args.name.now c.in-Some.at (rw (body_shown of) at found)

pub loop-inner-init : goal.loop-inner-init
loop-inner-init t c = λ scope first.
    let of = c.args.definition.now in
    continues_all scope first (inner_of (definition_view of)) (definitions_view c.deref-inner-items.result.now)
    (ap definitions_view c.deref-inner-items.ensures.value ∙ inner_shown of)

pub returns-in-Some-hidden_in_definition : goal.returns-in-Some-hidden_in_definition
returns-in-Some-hidden_in_definition t c = λ scope first.
    let d = definition_view c.args.definition.now in
    let w = within d first scope in
    let items = c.deref-inner-items.result.now in
    let item = c.inner-item.result in
    let (k, f) = continues_here items c.loop-inner.inner-index item c.loop-inner-test.true c.inner-item.is w first (inner_of d)
    (c.loop-inner.invariant w first) in
    hides_inside scope first k d (definition_view item) c.args.name.now c.in-Some-hidden_in_definition.at f
    (rw c.in-Some-hidden_in_definition.is at (c.hidden_in_definition.ensures w k))

pub loop-inner-preserved : goal.loop-inner-preserved
loop-inner-preserved t c = λ scope first.
    let d = definition_view c.args.definition.now in
    continues_next c.deref-inner-items.result.now c.loop-inner.inner-index c.inner-item.result c.loop-inner-test.true c.inner-item.is
    scope first (inner_of d) (c.loop-inner.invariant scope first)
