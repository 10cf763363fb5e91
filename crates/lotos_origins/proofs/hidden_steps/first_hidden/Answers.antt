use Rattle.std.proofs.Common.{◌≡◌, ◌∙◌, ℕ, Some, arith, inl, inr, refl, slice_get, subst}
use Rattle.std.proofs.lemmas.Bool.{cases_eq}
use Rattle.std.proofs.lemmas.Option.{slice_get_read, slice_get_within}
use Rattle.lotos_check.specs.NameLists.{In}
use Rattle.lotos_check.proofs.ListIndices.{get_in, in_get, one_item}
use Rattle.lotos_store.specs.declared.label.Label.{Label}
use Rattle.lotos_store.specs.declared.label.Label.TheVariants as labels
use Rattle.lotos_origins.proofs.hidden_steps.first_hidden.Goals as goal

pub loop-step-init : goal.loop-step-init
loop-step-init c = λ k s g less. absurd (omega arith)

pub returns-in-Some : goal.returns-in-Some
returns-in-Some c =
    let at = slice_get_read c.args.steps.now _ c.loop-step.step-index _ refl c.loop-step-test.true c.step-item.is in
    let (listed, is) = c.in-Some.ensures in
    (listed, subst (λ (s : Label × ℕ). In s c.args.steps.now) is (get_in c.args.steps.now c.loop-step.step-index c.step-item.result at))

pub loop-step-preserved : goal.loop-step-preserved
loop-step-preserved c = λ k s g less there listed is. elim (cases_eq k c.loop-step.step-index) [
  | inl same ↦
      let at = slice_get_read c.args.steps.now _ c.loop-step.step-index _ refl c.loop-step-test.true c.step-item.is in
      let one : c.step-item.result ≡ s =
      one_item c.args.steps.now c.loop-step.step-index c.step-item.result s at (subst (λ m. slice_get c.args.steps.now m ≡ Some s) same there) in
      c.in_default.ensures g listed (one ∙ is)
  | inr other ↦ c.loop-step.invariant k s g (omega arith) there listed is
]

pub returns : goal.returns
returns c g listed stands =
    let (k, at) = in_get c.args.steps.now (labels.Gate g, c.args.target) stands in
    let within = slice_get_within c.args.steps.now k (labels.Gate g, c.args.target) at in
    c.loop-step.invariant k _ g (omega (arith, c.loop-step-test.false)) at listed refl
