use Rattle.std.specs.Prelude.{◌≡◌, map}
use Rattle.lotos_text.specs.AstOf.{definition_view}
use Rattle.lotos_check.specs.Scope.{definitions_in}
use Rattle.lotos_explain.proofs.FirstDeclarations.{gate_in_list}
use Rattle.lotos_explain.proofs.first_declarations.first_gate.Goals as goal

pub returns-then-is_among_at : goal.returns-then-is_among_at
returns-then-is_among_at c =
    let whole = definition_view c.args.specification.now.whole in
    let list = c.deref-definition-items.result.now in
    let all : map (λ d. definition_view d.now) list ≡ definitions_in whole =
    rw c.deref-definition-items.ensures.value (rw c.new-definitions.ensures.items at c.in_ok-add_definitions.ensures) in
    gate_in_list whole list all c.loop-definition.definition-index c.definition-item.result c.loop-definition-test.true c.definition-item.is
    c.args.gate.now c.offset_of.result
    (rw c.as_slice.ensures.value at (c.is_among_at.ensures c.if-is_among_at.true))
    (rw (c.as_slice-then-is_among_at.ensures.value, c.text.ensures.bytes) at c.offset_of.ensures)
