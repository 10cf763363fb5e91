use Rattle.std.proofs.Common.{◌≡◌, subst}
use Rattle.std.specs.Prelude.{IfOk}
use Rattle.std.specs.List.{slice_get}
use Rattle.std.specs.Option.{option_copied}
use Rattle.lotos_terms.specs.TableView.{AreSuccessors}
use Rattle.uses.proofs.Runs.{first_is_step, none_is_dead}
use Rattle.uses.proofs.term_run.first_step.Goals as goal

pub returns-in-None-clause-step : goal.returns-in-None-clause-step
returns-in-None-clause-step c =
    let old = c.args.table.now in
    let new = c.successors.follows.lender-at-none in
    let holds = c.successors.follows.holds-at-none in
    let xs = c.in_ok-successors.field-0.now in
    let answers = subst (λ r. IfOk r (λ s. AreSuccessors new c.args.here s.now)) c.in_ok-successors.was holds.2 in
    none_is_dead old new holds.0 c.args.here c.requires xs answers (subst (λ r. option_copied r ≡ slice_get xs 0) c.in-None.is c.first.ensures.value)

pub returns-in-Some-clause-step : goal.returns-in-Some-clause-step
returns-in-Some-clause-step c =
    let old = c.args.table.now in
    let new = c.successors.follows.lender-at-none in
    let holds = c.successors.follows.holds-at-none in
    let xs = c.in_ok-successors.field-0.now in
    let answers = subst (λ r. IfOk r (λ s. AreSuccessors new c.args.here s.now)) c.in_ok-successors.was holds.2 in
    first_is_step old new holds.0 c.args.here c.requires xs answers _ (subst (λ r. option_copied r ≡ slice_get xs 0) c.in-Some.is c.first.ensures.value)
