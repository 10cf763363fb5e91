use Rattle.std.proofs.Common.{◌≡◌, ◌∙◌, ℕ, List, refl, subst, sym}
use Rattle.std.specs.Prelude.{IfOk}
use Rattle.std.proofs.lemmas.Option.{slice_get_read}
use Rattle.lotos_check.specs.NameLists.{In}
use Rattle.lotos_check.proofs.ListIndices.{get_in}
use Rattle.lotos_terms.specs.declared.Label.{Label}
use Rattle.lotos_terms.specs.declared.Label.TheVariants as labels
use Rattle.lotos_terms.specs.TableView.{AreSuccessors}
use Rattle.lotos_terms.proofs.GrowingTables.{below_grows}
use Rattle.lotos_origins.proofs.ListedSteps.{leads_grow, listed_leads}
use Rattle.terms_tests.proofs.origin_list.origins_of.Goals as goal

pub internal_origin-requires : goal.internal_origin-requires
internal_origin-requires c =
    let new = c.successors.follows.lender-at-none in
    let holds = c.successors.follows.holds-at-none in
    let list = c.in_ok-successors.field-0.now in
    let listed = subst (λ r. IfOk r (λ s. AreSuccessors new c.args.term s.now)) c.in_ok-successors.was holds.2 in
    let same : c.deref-step-items.result.now ≡ list = c.deref-step-items.ensures.value ∙ c.in_ok-steps.ensures.items in
    let at = slice_get_read c.deref-step-items.result.now _ c.loop-step.step-index _ refl c.loop-step-test.true c.step-item.is in
    let there = get_in c.deref-step-items.result.now c.loop-step.step-index c.step-item.result at in
    let stands : In (c.step.inside.label, c.step.inside.target) list = subst (λ (xs : List (Label × ℕ)). In (c.step.inside.label, c.step.inside.target) xs) same
    (subst (λ (s : Label × ℕ). In s c.deref-step-items.result.now) (sym c.step.view_is) there) in
    leads_grow new c.loop-step.table c.loop-step.invariant.grows labels.Internal c.args.term c.step.inside.target
    (listed_leads new holds.1 c.args.term (below_grows _ _ holds.0 _ c.requires) list listed labels.Internal c.step.inside.target
    (subst (λ (k : Label). In {X = Label × ℕ} (k, c.step.inside.target) list) c.in-Internal.is stands))
