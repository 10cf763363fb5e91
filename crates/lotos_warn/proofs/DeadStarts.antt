-- The warning that the behaviour of the specification can do nothing, by its system and by its steps.
use Rattle.std.proofs.Common.{◌≡◌, ◌↔◌, ℕ, List, Bool, true, false, refl, subst}
use Rattle.std.specs.Prelude.{MatchBool}
use Rattle.lotos_text.specs.AstView.{DefinitionView, body_of, name_of, stop}
use Rattle.lotos_text.specs.declared.ast.Placed.{Placed}
use Rattle.lotos_check.specs.StaticFaults.{IsDistinct}
use Rattle.lotos_check.specs.Flat.{IsFlat, System}
use Rattle.lotos_check.specs.Acceptance.{IsAccepted}
use Rattle.lotos_check.proofs.FlatSystemUnique.{one_system}
use Rattle.lotos_store.specs.Terms.{Process, Term}
use Rattle.lotos_warn.specs.declared.warning.Warning.TheVariants.{DeadStart}
use Rattle.lotos_warn.specs.declared.first_labels.FirstLabels.{FirstLabels}
use Rattle.lotos_warn.specs.FirstLabels.{First, IsDeadStart}
use Rattle.lotos_warn.specs.Additions.{IsDeadIn}
use Rattle.lotos_warn.specs.Derivations.{HasNoStep, IsStartOf}
use Rattle.lotos_warn.specs.LabelSets.{BeginsBy, Has, HasExactly, IsAlive, IsDead, IsKnown}
use Rattle.lotos_warn.proofs.LabelForms.{begins_exactly}
use Rattle.lotos_warn.proofs.FirstSteps.{first_of_step, step_of_first}

-- what the law of `lotos_check` says of flat systems
abbrev pub IsOneSystem : Type 0
IsOneSystem = (whole : DefinitionView) (s r : System) → IsDistinct whole → IsFlat whole s → IsFlat whole r → s ≡ r

-- the warning by one system of an accepted specification is the one by name
pub dead_by_name : IsOneSystem → (whole : DefinitionView) (system : System) → IsAccepted whole system → (name : Placed) →
    IsDeadIn system whole (DeadStart name) ↔ IsDeadStart whole name
dead_by_name one whole system accepted name = (
  (λ h. record { system = system; accepted = accepted; named = h.0; not_written = h.1; dead = h.2 }),
  (λ h. (
    h.named,
    h.not_written,
    subst IsDead (one whole h.system system accepted.typed.distinct h.accepted.flat accepted.flat) h.dead,
  )),
)

-- the labels of the behaviour tell whether it can do something
pub dead_by_labels : (system : System) (known : List FirstLabels) → ((k : ℕ) → IsKnown system.processes known k) → (labels : FirstLabels) →
    HasExactly labels (BeginsBy system.processes known system.start) → (none : Bool) →
    MatchBool none ((x : First) → Has labels x → ⊥) ((x : First) × Has labels x) → MatchBool none (IsDead system) (IsAlive system)
dead_by_labels system known all labels exact true h =
    λ x can. h x ((exact x).1 ((begins_exactly system.processes known system.start (λ k u. all k) x).1 can))
dead_by_labels system known all labels exact false (x, has) =
    (x, (begins_exactly system.processes known system.start (λ k u. all k) x).0 ((exact x).0 has))

-- what has the warning has no step
pub no_step : (whole : DefinitionView) (name : Placed) → IsDeadStart whole name → (processes : List Process) (term : Term) →
    IsStartOf whole processes term → HasNoStep processes term
no_step whole name warning processes term is k u step =
    let dead : IsDead is.system = ((dead_by_name one_system whole is.system is.accepted name).1 warning).2 in
    let (x, can, label) = first_of_step is.names is.ascends is.system.processes processes is.numbered is.system.start term u k is.same step in
    dead x can

-- what has no step has the warning, unless it is `stop`
pub dead_without_step : (whole : DefinitionView) (processes : List Process) (term : Term) → IsStartOf whole processes term →
    (body_of whole ≡ stop → ⊥) → HasNoStep processes term → IsDeadStart whole (name_of whole)
dead_without_step whole processes term is other none = record {
  system = is.system;
  accepted = is.accepted;
  named = refl;
  not_written = other;
  dead = λ x can. (
      let (k, u, label, step) = step_of_first is.names is.ascends is.system.processes processes is.numbered is.system.start term x is.same can in
      none k u step);
}
