use Rattle.std.proofs.Common.{map, sym, ◌∙◌, subst}
use Rattle.lotos_check.specs.NameLists.{In}
use Rattle.lotos_check.proofs.NameTests.{name_found, name_missing}
use Rattle.lotos_warn.proofs.SharedNames.{there_by_test, first_by_test, second_by_test}
use Rattle.lotos_warn.proofs.gate_names.is_in_both.Goals as goal

pub returns-then-contains : goal.returns-then-contains
returns-then-contains c =
    let first = map (λ k. k.now) c.args.first.now.keys in
    second_by_test first (map (λ k. k.now) c.args.second.now.keys) c.args.name.now c.contains-then-contains.result
    (subst (λ n. In n first) c.text.ensures.bytes
    (name_found (λ k. k.now) c.text.result.now c.args.first.now.keys (sym c.contains.ensures ∙ c.if-contains.true)))
    (there_by_test c.args.second.now.keys c.text-then-contains.result.now c.args.name.now c.contains-then-contains.result
    c.text-then-contains.ensures.bytes c.contains-then-contains.ensures)

pub returns-else-contains : goal.returns-else-contains
returns-else-contains c =
    let first = map (λ k. k.now) c.args.first.now.keys in
    first_by_test first (map (λ k. k.now) c.args.second.now.keys) c.args.name.now c.contains.result c.if-contains.false
    (subst (λ n. In n first → ⊥) c.text.ensures.bytes
    (name_missing (λ k. k.now) c.text.result.now c.args.first.now.keys (sym c.contains.ensures ∙ c.if-contains.false)))
