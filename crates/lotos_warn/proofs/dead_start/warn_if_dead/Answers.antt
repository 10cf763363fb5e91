use Rattle.std.proofs.Common.{◌≡◌, [], ◌∷◌, ◌++◌, sym, ap, ◌∙◌, subst, inl, inr}
use Rattle.lotos_text.specs.AstView.{body_of, name_of, stop}
use Rattle.lotos_text.specs.AstOf.{definition_view}
use Rattle.lotos_check.specs.CheckedView.{system_of}
use Rattle.lotos_warn.specs.declared.warning.Warning.TheVariants.{DeadStart}
use Rattle.lotos_warn.specs.Additions.{Adds, IsDeadIn}
use Rattle.lotos_warn.proofs.Additions.{adds_as, adds_nothing}
use Rattle.lotos_warn.proofs.NameTests.{adds_end}
use Rattle.lotos_warn.proofs.DefinitionWarnings.{dead_one, dead_never}
use Rattle.lotos_text.proofs.DefinitionParts.{body_shown, name_shown}
use Rattle.lotos_warn.proofs.dead_start.warn_if_dead.Goals as goal

pub returns-in_ok-push : goal.returns-in_ok-push
returns-in_ok-push c =
    let old = c.args.warnings.now.items in
    let d = definition_view c.args.whole.now in
    let system = system_of c.args.system.now in
    let other : body_of d ≡ stop → ⊥ = λ e. c.if-not-is_stop.ensures (body_shown c.args.whole.now ∙ e) in
    let pushed = c.in_ok-push.ensures.items ∙ ap (λ p. old ++ DeadStart p ∷ []) (c.in_ok-name.ensures ∙ name_shown c.args.whole.now) in
    subst (λ ws. Adds old ws (IsDeadIn system d)) (sym pushed)
    (adds_as old (old ++ DeadStart (name_of d) ∷ []) (λ w. DeadStart (name_of d) ≡ w)
    (IsDeadIn system d) (dead_one system d other (rw c.if-branch.true at c.in_ok-is_dead.ensures))
    (adds_end old (DeadStart (name_of d))))

pub returns-else-branch : goal.returns-else-branch
returns-else-branch c =
    let d = definition_view c.args.whole.now in
    let system = system_of c.args.system.now in
    adds_nothing c.args.warnings.now.items (IsDeadIn system d) (dead_never system d (inr (rw c.if-branch.false at c.in_ok-is_dead.ensures)))

pub returns-else-not-is_stop : goal.returns-else-not-is_stop
returns-else-not-is_stop c =
    let d = definition_view c.args.whole.now in
    let system = system_of c.args.system.now in
    adds_nothing c.args.warnings.now.items (IsDeadIn system d)
    (dead_never system d (inl (sym (body_shown c.args.whole.now) ∙ c.if-not-is_stop.ensures)))
