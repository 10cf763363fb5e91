use Rattle.std.proofs.Common.{◌∙◌, ap}
use Rattle.lotos_text.specs.AstView.{inner_of}
use Rattle.lotos_text.specs.AstOf.{definition_view, definitions_view}
use Rattle.lotos_check.specs.NameLists.{texts}
use Rattle.lotos_check.specs.Scope.{within}
use Rattle.lotos_text.proofs.DefinitionParts.{body_shown, formals_shown, inner_shown}
use Rattle.lotos_explain.proofs.DefinitionScopes.{continues_all, continues_next, continues_here, gate_here, gate_inside}
use Rattle.lotos_explain.proofs.SimilarNames.{from_nothing}
use Rattle.lotos_explain.proofs.similar_gates.+gate_in_definition.Goals as goal

pub returns-in-Some : goal.returns-in-Some
returns-in-Some t c = λ scope first.
    let of = c.args.definition.now in
    let d = definition_view of in
    let best = from_nothing (λ k. k.now) c.in_ok-best.best (texts c.as_slice.result.now) c.in_ok-best.ensures in
    let found = rw c.in-Some.is at (c.in_ok-found.ensures (texts c.as_slice.result.now) best) in
    gate_here scope first d c.args.place c.in-Some.found.now
    (rw (← formals_shown of, ← body_shown of) (rw c.as_slice.ensures.value at found))

pub loop-inner-init : goal.loop-inner-init
loop-inner-init t c = λ scope first.
    let of = c.args.definition.now in
    continues_all scope first (inner_of (definition_view of)) (definitions_view c.deref-inner-items.result.now)
    (ap definitions_view c.deref-inner-items.ensures.value ∙ inner_shown of)

pub returns-in-Some-2 : goal.returns-in-Some-2
returns-in-Some-2 t c = λ scope first.
    let d = definition_view c.args.definition.now in
    let w = within d first scope in
    let items = c.deref-inner-items.result.now in
    let item = c.inner-item.result in
    let (k, f) = continues_here items c.loop-inner.inner-index item c.loop-inner-test.true c.inner-item.is w first (inner_of d)
    (c.loop-inner.invariant w first) in
    gate_inside scope first k d (definition_view item) c.args.place c.in-Some-2.found.now f
    (rw c.in-Some-2.is at (c.in_ok-found-2.ensures w k))

pub loop-inner-preserved : goal.loop-inner-preserved
loop-inner-preserved t c = λ scope first.
    let d = definition_view c.args.definition.now in
    continues_next c.deref-inner-items.result.now c.loop-inner.inner-index c.inner-item.result c.loop-inner-test.true c.inner-item.is
    scope first (inner_of d) (c.loop-inner.invariant scope first)
