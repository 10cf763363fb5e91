use Rattle.std.proofs.Common.{◌<◌, ◌≤◌, length, arith, refl}
use Rattle.std.proofs.lemmas.List.{drop_all}
use Rattle.lotos_text.specs.AstOf.{definition_view}
use Rattle.lotos_check.specs.Acceptance.{IsDuplicateFault}
use Rattle.lotos_check.proofs.SameFault.{passed_on}
use Rattle.lotos_check.proofs.Pairs.{drop_at}
use Rattle.lotos_check.proofs.DistinctDefinitions.{passed_none, passed_more, passed_again, passed_inside, passed_all, formals_distinct, gate_again}
use Rattle.lotos_check.proofs.duplicates.+check_distinct.Goals as goal

pub check_distinct-returns-in-Some-clause-fails : goal.check_distinct-returns-in-Some-clause-fails
check_distinct-returns-in-Some-clause-fails t c = gate_again c.args.whole.now c.in-Some.gate c.as_slice.result.now c.as_slice.ensures.value
    (rw c.in-Some.is at c.in_ok-gate.ensures)

pub check_distinct-returns-clause-distinct : goal.check_distinct-returns-clause-distinct
check_distinct-returns-clause-distinct t c =
    c.check_inner.ensures.distinct (formals_distinct c.args.whole.now c.as_slice.result.now c.as_slice.ensures.value
    (rw c.in_default.is at c.in_ok-gate.ensures))

pub check_inner-loop-inner-init : goal.check_inner-loop-inner-init
check_inner-loop-inner-init t c = passed_none (λ k. k.now) c.args.names.now.keys c.deref-inner-items.result.now c.requires

pub check_inner-returns-then-not-branch-clause-fails : goal.check_inner-returns-then-not-branch-clause-fails
check_inner-returns-then-not-branch-clause-fails t c =
    let within : c.loop-inner.inner-index < length c.deref-inner-items.result.now = omega arith in
    let next = drop_at c.deref-inner-items.result.now c.loop-inner.inner-index _ c.inner-item.result within c.inner-item.is in
    passed_again (λ k. k.now)
    c.loop-inner.names.keys c.insert.new.self.keys c.text.result c.deref-inner-items.result.now _ _ c.inner-item.result c.text.result.now
    c.loop-inner.invariant next c.text.ensures.bytes _ c.in_ok-insert.ensures.added c.args.whole.now c.deref-inner-items.ensures.value _ c.in_ok-copy.ensures
    c.if-not-branch.true

pub check_inner-returns-in_err-check_distinct-clause-fails : goal.check_inner-returns-in_err-check_distinct-clause-fails
check_inner-returns-in_err-check_distinct-clause-fails t c =
    let within : c.loop-inner.inner-index < length c.deref-inner-items.result.now = omega arith in
    let next = drop_at c.deref-inner-items.result.now c.loop-inner.inner-index _ c.inner-item.result within c.inner-item.is in
    passed_on (IsDuplicateFault (definition_view c.args.whole.now))
    c.from_residual-in_err-check_distinct.result c.in_err-check_distinct.field-0.0 c.from_residual-in_err-check_distinct.ensures.1
    (passed_inside (λ k. k.now)
    c.loop-inner.names.keys c.insert.new.self.keys c.text.result c.deref-inner-items.result.now _ _ c.inner-item.result c.text.result.now
    c.loop-inner.invariant next c.text.ensures.bytes _ c.in_ok-insert.ensures.added c.args.whole.now c.deref-inner-items.ensures.value
    c.in_err-check_distinct.field-0.0 c.in_err-check_distinct.ensures.fails)

pub check_inner-loop-inner-preserved : goal.check_inner-loop-inner-preserved
check_inner-loop-inner-preserved t c =
    let within : c.loop-inner.inner-index < length c.deref-inner-items.result.now = omega arith in
    let next = drop_at c.deref-inner-items.result.now c.loop-inner.inner-index _ c.inner-item.result within c.inner-item.is in
    passed_more (λ k. k.now)
    c.loop-inner.names.keys c.insert.new.self.keys c.text.result c.deref-inner-items.result.now _ _ c.inner-item.result c.text.result.now
    c.loop-inner.invariant next c.text.ensures.bytes _ c.in_ok-insert.ensures.added c.if-not-branch.false refl c.in_ok-insert.ensures.keys
    c.in_ok-check_distinct.ensures.distinct

pub check_inner-returns-clause-distinct : goal.check_inner-returns-clause-distinct
check_inner-returns-clause-distinct t c =
    let done : length c.deref-inner-items.result.now ≤ c.loop-inner.inner-index = omega arith in
    passed_all (λ k. k.now) _ c.deref-inner-items.result.now _ c.args.whole.now c.loop-inner.invariant
    (drop_all c.loop-inner.inner-index c.deref-inner-items.result.now done)
    c.deref-inner-items.ensures.value
