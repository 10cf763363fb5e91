use Rattle.std.proofs.Common.{◌≡◌, ◌∙◌, ap}
use Rattle.lotos_text.specs.AstView.{formals_of, inner_of}
use Rattle.lotos_text.specs.AstOf.{definition_view, definitions_view}
use Rattle.lotos_check.specs.NameLists.{texts}
use Rattle.lotos_check.specs.Scope.{within}
use Rattle.lotos_text.proofs.DefinitionParts.{body_shown, inner_shown}
use Rattle.lotos_explain.proofs.DefinitionScopes.{continues_all, continues_next, continues_here, process_here, process_inside, bound_inside}
use Rattle.lotos_explain.proofs.SimilarNames.{some_weaker}
use Rattle.lotos_explain.proofs.similar_processes.+process_in_definition.Goals as goal

pub returns-then-calls_at : goal.returns-then-calls_at
returns-then-calls_at t c = λ scope first h.
    let of = c.args.definition.now in
    let d = definition_view of in
    let calls = rw (body_shown of) at (c.calls_at.ensures (texts (formals_of d)) c.if-calls_at.true) in
    let same : definitions_view c.as_slice.result.now ≡ inner_of d = ap definitions_view c.as_slice.ensures.value ∙ inner_shown of in
    some_weaker c.in_ok-best.best (λ n. process_here scope first d c.args.at n.now calls)
    (bound_inside (λ k. k.now) c.args.best c.in_ok-best.best d (definitions_view c.as_slice.result.now) first scope same h c.in_ok-best.ensures)

pub loop-inner-init : goal.loop-inner-init
loop-inner-init t c = λ scope first.
    let of = c.args.definition.now in
    continues_all scope first (inner_of (definition_view of)) (definitions_view c.deref-inner-items.result.now)
    (ap definitions_view c.deref-inner-items.ensures.value ∙ inner_shown of)

pub returns-in-Some : goal.returns-in-Some
returns-in-Some t c = λ scope first h.
    let d = definition_view c.args.definition.now in
    let w = within d first scope in
    let items = c.deref-inner-items.result.now in
    let item = c.inner-item.result in
    let (k, f) = continues_here items c.loop-inner.inner-index item c.loop-inner-test.true c.inner-item.is w first (inner_of d)
    (c.loop-inner.invariant w first) in
    let of = c.args.definition.now in
    let same : definitions_view c.as_slice.result.now ≡ inner_of d = ap definitions_view c.as_slice.ensures.value ∙ inner_shown of in
    let best = bound_inside (λ k. k.now) c.args.best c.in_ok-best.best d (definitions_view c.as_slice.result.now) first scope same h c.in_ok-best.ensures in
    process_inside scope first k d (definition_view item) c.args.at c.in-Some.found.now f
    (rw c.in-Some.is at (c.in_ok-found.ensures w k best))

pub loop-inner-preserved : goal.loop-inner-preserved
loop-inner-preserved t c = λ scope first.
    let d = definition_view c.args.definition.now in
    continues_next c.deref-inner-items.result.now c.loop-inner.inner-index c.inner-item.result c.loop-inner-test.true c.inner-item.is
    scope first (inner_of d) (c.loop-inner.invariant scope first)
