use Rattle.std.proofs.Common.{inl, inr, refl, subst}
use Rattle.std.specs.Prelude.{IfOk}
use Rattle.lotos_store.specs.declared.label.Label.TheVariants as labels
use Rattle.lotos_terms.specs.TableView.{AreSuccessors}
use Rattle.lotos_terms.proofs.GrowingTables.{below_grows}
use Rattle.lotos_origins.proofs.ListedSteps.{leads_grow, leads_listed, listed_leads}
use Rattle.lotos_origins.proofs.hidden_steps.look_in_hiding.Goals as goal

pub returns-then-has_internal_step-clause-found : goal.returns-then-has_internal_step-clause-found
returns-then-has_internal_step-clause-found c =
    let new = c.successors.follows.lender-at-none in
    let holds = c.successors.follows.holds-at-none in
    let listed = subst (λ r. IfOk r (λ s. AreSuccessors new c.args.body s.now)) c.in_ok-steps.was holds.2 in
    let below = below_grows _ _ holds.0 _ c.requires.body in
    inl (refl, listed_leads new holds.1 c.args.body below c.in_ok-steps.steps.now listed labels.Internal c.args.target c.if-has_internal_step.ensures)

pub unreachable-requires : goal.unreachable-requires
unreachable-requires c =
    let old = c.args.table.now in
    let new = c.successors.follows.lender-at-none in
    let holds = c.successors.follows.holds-at-none in
    let listed = subst (λ r. IfOk r (λ s. AreSuccessors new c.args.body s.now)) c.in_ok-steps.was holds.2 in
    let below = below_grows _ _ holds.0 _ c.requires.body in
    elim c.requires.some [
      | inl inner ↦ c.if-has_internal_step.ensures (leads_listed new holds.1 c.args.body below c.in_ok-steps.steps.now listed labels.Internal c.args.target
          (leads_grow old new holds.0 labels.Internal c.args.body c.args.target inner))
      | inr hidden ↦ c.in-None.ensures hidden.0 hidden.1 (leads_listed new holds.1 c.args.body below c.in_ok-steps.steps.now listed (labels.Gate hidden.0)
          c.args.target (leads_grow old new holds.0 (labels.Gate hidden.0) c.args.body c.args.target hidden.2))
    ]

pub returns-clause-found : goal.returns-clause-found
returns-clause-found c =
    let new = c.successors.follows.lender-at-none in
    let holds = c.successors.follows.holds-at-none in
    let listed = subst (λ r. IfOk r (λ s. AreSuccessors new c.args.body s.now)) c.in_ok-steps.was holds.2 in
    let below = below_grows _ _ holds.0 _ c.requires.body in
    let (there, stands) = c.in-Some.ensures in
    let leads = listed_leads new holds.1 c.args.body below c.in_ok-steps.steps.now listed (labels.Gate c.in-Some.gate) c.args.target stands in
    inr (c.in-Some.gate, refl, there, leads)
