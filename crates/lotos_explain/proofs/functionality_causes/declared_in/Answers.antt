use Rattle.std.specs.Prelude.{drop, ◌+◌, ◌≤◌, length}
use Rattle.std.proofs.Common.{arith}
use Rattle.std.proofs.lemmas.List.{drop_all}
use Rattle.lotos_text.specs.AstOf.{definition_view, definitions_view}
use Rattle.lotos_explain.proofs.DefinitionScopes.{rest_at}
use Rattle.lotos_explain.proofs.FunctionalityCauses.{same_all, same_here, same_next, same_none, is_named, is_not_named}
use Rattle.lotos_explain.proofs.functionality_causes.declared_in.Goals as goal

pub returns-then-eq : goal.returns-then-eq
returns-then-eq c = λ first.
    let all = c.args.definitions.now in
    let index = c.loop-definition.definition-index in
    let item = c.definition-item.result in
    let n = c.args.name.now in
    same_here (definitions_view all) first n (definition_view item) (definitions_view (drop (index + 1) all))
    (rw (rest_at all index item c.loop-definition-test.true c.definition-item.is) at (c.loop-definition.invariant first))
    (is_named item n c.eq.result c.eq.ensures c.if-eq.true)

pub loop-definition-init : goal.loop-definition-init
loop-definition-init c = λ first. same_all (definitions_view c.args.definitions.now) first c.args.name.now

pub loop-definition-preserved : goal.loop-definition-preserved
loop-definition-preserved c = λ first.
    let all = c.args.definitions.now in
    let index = c.loop-definition.definition-index in
    let item = c.definition-item.result in
    let n = c.args.name.now in
    same_next (definitions_view all) first n (definition_view item) (definitions_view (drop (index + 1) all))
    (rw (rest_at all index item c.loop-definition-test.true c.definition-item.is) at (c.loop-definition.invariant first))
    (is_not_named item n c.eq.result c.eq.ensures c.if-eq.false)

pub returns : goal.returns
returns c = λ first.
    let all = c.args.definitions.now in
    let index = c.loop-definition.definition-index in
    let done : length all ≤ index = omega arith in
    same_none (definitions_view all) first c.args.name.now
    (rw (drop_all index all done) at (c.loop-definition.invariant first))
