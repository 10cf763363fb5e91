use Rattle.std.proofs.Common.{◌≡◌, ◌∙◌, false, subst, sym, true}
use Rattle.lotos_check.specs.NameLists.{In}
use Rattle.lotos_store.specs.GateLists.{is_in_list}
use Rattle.lotos_store.specs.declared.label.Label.TheVariants as labels
use Rattle.lotos_store.proofs.GateLists.{listed_in, listed_true}
use Rattle.lotos_normal.proofs.GateFlags.{same_gate}
use Rattle.lotos_origins.proofs.ListedSteps.{same_step, step_same}
use Rattle.lotos_origins.proofs.hidden_steps.hidden_gate.Goals.{else-number-via-else-number, else-number-via-then-number+else-is_listed}
use Rattle.lotos_origins.proofs.hidden_steps.hidden_gate.Goals as goal

pub returns-then-is_listed : goal.returns-then-is_listed
returns-then-is_listed c =
    let target : c.step.inside.target ≡ c.args.target = sym c.number.ensures ∙ c.if-number.true ∙ c.number-2.ensures in (
      listed_in c.args.gates.now c.in_ok-gate.gate (sym c.if-is_listed.ensures),
      sym c.step.view_is ∙ step_same _ _ _ _ c.in_ok-gate.ensures target,
    )

pub returns : goal.returns
returns c = λ g there is.
    let (label, target) = same_step c.step.inside.label (labels.Gate g) c.step.inside.target c.args.target (c.step.view_is ∙ is) in
    let gate : c.in_ok-gate.gate ≡ g = same_gate _ _ (sym c.in_ok-gate.ensures ∙ label) in
    let listed : is_in_list c.args.gates.now c.in_ok-gate.gate ≡ true = listed_true c.args.gates.now _ (subst (λ h. In h c.args.gates.now) (sym gate) there) in
    elim c.else-number.branch [
      | else-number-via-then-number+else-is_listed w ↦
          let other : true ≡ false = sym listed ∙ sym w.is_listed.ensures ∙ w.if-is_listed.false in absurd cc
      | else-number-via-else-number w ↦ absurd (w.if-number.false (c.number.ensures ∙ target ∙ sym c.number-2.ensures))
    ]
