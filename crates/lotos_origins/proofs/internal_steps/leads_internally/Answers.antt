use Rattle.std.proofs.Common.{subst}
use Rattle.std.specs.Prelude.{IfOk}
use Rattle.lotos_store.specs.declared.label.Label.TheVariants as labels
use Rattle.lotos_terms.specs.TableView.{AreSuccessors}
use Rattle.lotos_terms.proofs.GrowingTables.{below_grows}
use Rattle.lotos_origins.proofs.ListedSteps.{leads_or_not}
use Rattle.lotos_origins.proofs.internal_steps.leads_internally.Goals as goal

pub returns-clause-leads : goal.returns-clause-leads
returns-clause-leads c =
    let new = c.successors.follows.lender-at-none in
    let holds = c.successors.follows.holds-at-none in
    let listed = subst (λ r. IfOk r (λ s. AreSuccessors new c.args.from s.now)) c.in_ok-steps.was holds.2 in
    leads_or_not new holds.1 c.args.from (below_grows _ _ holds.0 _ c.requires) c.in_ok-steps.steps.now listed labels.Internal c.args.to
    c.has_internal_step.result c.has_internal_step.ensures
