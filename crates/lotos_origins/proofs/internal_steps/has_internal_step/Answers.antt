use Rattle.std.proofs.Common.{◌≡◌, ◌∙◌, ℕ, Some, arith, inl, inr, refl, slice_get, subst}
use Rattle.std.proofs.lemmas.Bool.{cases_eq}
use Rattle.std.proofs.lemmas.Option.{slice_get_read, slice_get_within}
use Rattle.lotos_check.specs.NameLists.{In}
use Rattle.lotos_check.proofs.ListIndices.{get_in, in_get, one_item}
use Rattle.lotos_store.specs.declared.label.Label.{Label}
use Rattle.lotos_store.specs.declared.label.Label.TheVariants as labels
use Rattle.lotos_origins.proofs.internal_steps.has_internal_step.Goals as goal

pub loop-step-init : goal.loop-step-init
loop-step-init c = λ k s less. absurd (omega arith)

pub returns-then-is_internal_step : goal.returns-then-is_internal_step
returns-then-is_internal_step c =
    let at = slice_get_read c.args.steps.now _ c.loop-step.step-index _ refl c.loop-step-test.true c.step-item.is in
    subst (λ (s : Label × ℕ). In s c.args.steps.now) c.if-is_internal_step.ensures (get_in c.args.steps.now c.loop-step.step-index c.step-item.result at)

pub loop-step-preserved : goal.loop-step-preserved
loop-step-preserved c = λ k s less there is. elim (cases_eq k c.loop-step.step-index) [
  | inl same ↦
      let at = slice_get_read c.args.steps.now _ c.loop-step.step-index _ refl c.loop-step-test.true c.step-item.is in
      let one : c.step-item.result ≡ s =
      one_item c.args.steps.now c.loop-step.step-index c.step-item.result s at (subst (λ m. slice_get c.args.steps.now m ≡ Some s) same there) in
      c.if-is_internal_step.ensures (one ∙ is)
  | inr other ↦ c.loop-step.invariant k s (omega arith) there is
]

pub returns : goal.returns
returns c stands =
    let (k, at) = in_get c.args.steps.now (labels.Internal, c.args.target) stands in
    let within = slice_get_within c.args.steps.now k (labels.Internal, c.args.target) at in
    c.loop-step.invariant k _ (omega (arith, c.loop-step-test.false)) at refl
