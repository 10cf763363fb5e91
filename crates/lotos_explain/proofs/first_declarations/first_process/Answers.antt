use Rattle.std.specs.Prelude.{◌≡◌, map}
use Rattle.lotos_text.specs.AstOf.{definition_view}
use Rattle.lotos_check.specs.Scope.{definitions_in}
use Rattle.lotos_explain.proofs.FirstDeclarations.{process_in_list}
use Rattle.lotos_explain.proofs.first_declarations.first_process.Goals as goal

pub returns-then-declares_at : goal.returns-then-declares_at
returns-then-declares_at c =
    let whole = definition_view c.args.specification.now.whole in
    let list = c.deref-definition-items.result.now in
    let all : map (λ d. definition_view d.now) list ≡ definitions_in whole =
    rw c.deref-definition-items.ensures.value (rw c.new-definitions.ensures.items at c.in_ok-add_definitions.ensures) in
    process_in_list whole list all c.loop-definition.definition-index c.definition-item.result c.loop-definition-test.true c.definition-item.is
    c.args.process.now c.declared_first.result
    (rw c.as_slice.ensures.value at (c.declares_at.ensures c.if-declares_at.true))
    (rw c.as_slice-then-declares_at.ensures.value at c.declared_first.ensures)
