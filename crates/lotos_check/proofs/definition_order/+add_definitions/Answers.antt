use Rattle.std.proofs.Common.{◌+◌, ◌<◌, ◌≤◌, length, drop, refl, arith}
use Rattle.std.proofs.lemmas.List.{drop_all}
use Rattle.lotos_text.specs.AstOf.{definition_view}
use Rattle.lotos_check.proofs.Pairs.{drop_at}
use Rattle.lotos_check.proofs.DefinitionOrder.{first_listed, next_listed, all_listed}
use Rattle.lotos_check.proofs.definition_order.+add_definitions.Goals as goal

pub loop-inner-init : goal.loop-inner-init
loop-inner-init t c =
    first_listed (λ d. definition_view d.now) c.args.into.now.items c.push.new.self.items _ c.args.definition.now c.deref-inner-items.result.now
    c.in_ok-push.ensures.items refl c.deref-inner-items.ensures.value

pub loop-inner-preserved : goal.loop-inner-preserved
loop-inner-preserved t c =
    let items = c.deref-inner-items.result.now in
    let index = c.loop-inner.inner-index in
    let below : index < length items = omega arith in
    next_listed (λ d. definition_view d.now) c.loop-inner.into.items c.add_definitions.new.into.items c.inner-item.result (drop index items)
    (drop (index + 1) items) _ (drop_at items index _ c.inner-item.result below c.inner-item.is) c.in_ok-add_definitions.ensures
    c.loop-inner.invariant

pub returns : goal.returns
returns t c =
    let items = c.deref-inner-items.result.now in
    let past : length items ≤ c.loop-inner.inner-index = omega arith in
    all_listed (λ d. definition_view d.now) c.loop-inner.into.items (drop c.loop-inner.inner-index items) _ (drop_all c.loop-inner.inner-index items past)
    c.loop-inner.invariant
