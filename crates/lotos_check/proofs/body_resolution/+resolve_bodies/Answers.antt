use Rattle.std.specs.Prelude.{◌≡◌, ◌+◌, ◌<◌, ◌≤◌, length, drop}
use Rattle.std.proofs.Common.{refl, ap, ◌∙◌, subst, arith}
use Rattle.std.proofs.lemmas.List.{drop_all}
use Rattle.lotos_text.specs.AstView.{inner_of}
use Rattle.lotos_text.specs.AstOf.{definition_view, definitions_view}
use Rattle.lotos_check.specs.Scope.{count, within, definitions_in_scope, definition_in_scope}
use Rattle.lotos_check.specs.Resolution.{AddsBodies, IsNameFaultIn}
use Rattle.lotos_text.proofs.DefinitionParts.{inner_shown}
use Rattle.lotos_check.proofs.BodyResolutions.{adds_append, adds_none, adds_first, misnamed_left, misnamed_right, misnamed_here, misnamed_inside, no_memory, shows_inside}
use Rattle.lotos_check.proofs.Pairs.{drop_at}
use Rattle.lotos_check.proofs.SameFault.{passed_on}
use Rattle.lotos_check.proofs.ScopedDefinitions.{count_more, listed_more}
use Rattle.lotos_check.proofs.body_resolution.+resolve_bodies.Goals as goal

pub returns-in_err-own-clause-name_fault : goal.returns-in_err-own-clause-name_fault
returns-in_err-own-clause-name_fault t c =
    passed_on _ c.from_residual.result _ c.from_residual.ensures.1
    (λ scope shows. no_memory scope c.args.first (definition_view c.args.definition.now) _)

pub returns-in_err-push-clause-name_fault : goal.returns-in_err-push-clause-name_fault
returns-in_err-push-clause-name_fault t c =
    passed_on _ c.from_residual-in_err-push.result _ c.from_residual-in_err-push.ensures.1
    (λ scope shows. no_memory scope c.args.first (definition_view c.args.definition.now) _)

pub returns-in_err-push-2-clause-name_fault : goal.returns-in_err-push-2-clause-name_fault
returns-in_err-push-2-clause-name_fault t c =
    passed_on _ c.from_residual-in_err-push-2.result _ c.from_residual-in_err-push-2.ensures.1
    (λ scope shows. no_memory scope c.args.first (definition_view c.args.definition.now) _)

pub returns-in_err-found-clause-name_fault : goal.returns-in_err-found-clause-name_fault
returns-in_err-found-clause-name_fault t c =
    passed_on _ c.from_residual-in_err-found.result _ c.from_residual-in_err-found.ensures.1 (λ scope shows.
    let of = c.args.definition.now in
    let d = definition_view of in
    let w = within d c.args.first scope in
    let all = shows_inside (λ k. k.now) of c.as_slice.result.now c.args.first c.in_ok-own.own c.args.scopes.now.items
    c.push.new.self.items c.as_slice.ensures.value c.in_ok-own.ensures c.in_ok-push.ensures.items scope shows in
    misnamed_here scope c.args.first d c.in_err-found.field-0.0
    (c.in_err-found.ensures w (rw c.as_slice-2.ensures.value all)))

pub returns-in_err-number-clause-name_fault : goal.returns-in_err-number-clause-name_fault
returns-in_err-number-clause-name_fault t c =
    passed_on _ c.from_residual-in_err-number.result _ c.from_residual-in_err-number.ensures.1 (λ scope shows.
    let of = c.args.definition.now in
    let d = definition_view of in
    let w = within d c.args.first scope in
    let all = shows_inside (λ k. k.now) of c.as_slice.result.now c.args.first c.in_ok-own.own c.args.scopes.now.items
    c.push.new.self.items c.as_slice.ensures.value c.in_ok-own.ensures c.in_ok-push.ensures.items scope shows in
    let items = c.deref-inner-items.result.now in
    let index = c.loop-inner.inner-index in
    let below : index < length items = omega arith in
    let left = drop_at items index _ c.inner-item.result below c.inner-item.is in
    let one = definition_view c.inner-item.result in
    let rest = definitions_view (drop (index + 1) items) in
    let fault = c.in_err-number.field-0.0 in
    let number = c.loop-inner.number in
    let here = c.in_err-number.ensures.name_fault w (rw c.loop-inner.invariant.stack all) in
    misnamed_inside scope c.args.first d fault (c.loop-inner.invariant.misnamed w all fault
    (rw (left, listed_more w number one rest)
    (misnamed_left (definition_in_scope w (number + 1) one) (definitions_in_scope w (number + 1 + count (inner_of one)) rest) fault here))))

pub loop-inner-init : goal.loop-inner-init
loop-inner-init t c =
    let of = c.args.definition.now in
    let inner : definitions_view c.deref-inner-items.result.now ≡ inner_of (definition_view of) =
    ap definitions_view c.deref-inner-items.ensures.value ∙ inner_shown of in
    record {
      number = ap (λ ds. c.args.first + count ds) inner;
      stack = refl;
      adds = λ scope shows new h. subst (λ ds. AddsBodies (definitions_in_scope scope c.args.first ds) c.push-2.new.self.items new) inner h;
      misnamed = λ scope shows fault h. subst (λ ds. IsNameFaultIn (definitions_in_scope scope c.args.first ds) fault) inner h;
    }

pub loop-inner-preserved : goal.loop-inner-preserved
loop-inner-preserved t c =
    let items = c.deref-inner-items.result.now in
    let index = c.loop-inner.inner-index in
    let below : index < length items = omega arith in
    let left = drop_at items index _ c.inner-item.result below c.inner-item.is in
    let one = definition_view c.inner-item.result in
    let rest = definitions_view (drop (index + 1) items) in
    let more = count_more one rest in
    let before = c.loop-inner.number in
    let number = rw left at c.loop-inner.invariant.number in
    let after = c.in_ok-number.ensures.next in
    record {
      number = omega arith;
      stack = c.in_ok-number.ensures.stack ∙ c.loop-inner.invariant.stack;
      adds = λ scope shows new h.
          let later = subst (λ k. AddsBodies (definitions_in_scope scope k rest) c.resolve_bodies.new.into.items new) after h in
          let here = c.in_ok-number.ensures.adds scope (rw c.loop-inner.invariant.stack shows) in
          c.loop-inner.invariant.adds scope shows new (rw (left, listed_more scope before one rest)
          (adds_append (definition_in_scope scope (before + 1) one) (definitions_in_scope scope (before + 1 + count (inner_of one)) rest)
          c.loop-inner.into.items c.resolve_bodies.new.into.items new here later));
      misnamed = λ scope shows fault h.
          let later = subst (λ k. IsNameFaultIn (definitions_in_scope scope k rest) fault) after h in
          c.loop-inner.invariant.misnamed scope shows fault (rw (left, listed_more scope before one rest)
          (misnamed_right (definition_in_scope scope (before + 1) one) (definitions_in_scope scope (before + 1 + count (inner_of one)) rest) fault
          later));
    }

pub returns-clause-next : goal.returns-clause-next
returns-clause-next t c =
    let past : length c.deref-inner-items.result.now ≤ c.loop-inner.inner-index = omega arith in
    let number = rw (drop_all c.loop-inner.inner-index c.deref-inner-items.result.now past) at c.loop-inner.invariant.number in
    omega arith

pub returns-clause-adds : goal.returns-clause-adds
returns-clause-adds t c = λ scope shows.
    let of = c.args.definition.now in
    let d = definition_view of in
    let w = within d c.args.first scope in
    let all = shows_inside (λ k. k.now) of c.as_slice.result.now c.args.first c.in_ok-own.own c.args.scopes.now.items
    c.push.new.self.items c.as_slice.ensures.value c.in_ok-own.ensures c.in_ok-push.ensures.items scope shows in
    let past : length c.deref-inner-items.result.now ≤ c.loop-inner.inner-index = omega arith in
    let none = drop_all c.loop-inner.inner-index c.deref-inner-items.result.now past in
    let inside = c.loop-inner.invariant.adds w all c.loop-inner.into.items (rw none (adds_none c.loop-inner.into.items)) in
    adds_first scope c.args.first d _ _ _ c.in_ok-found.found c.in_ok-push-2.ensures.items
    (c.in_ok-found.ensures w (rw c.as_slice-2.ensures.value all)) inside
