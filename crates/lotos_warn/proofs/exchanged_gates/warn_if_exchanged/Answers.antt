use Rattle.std.proofs.Common.{◌≡◌, [], ◌∷◌, ◌++◌, sym, ap, ◌∙◌, subst}
use Rattle.lotos_check.specs.NameLists.{texts}
use Rattle.lotos_warn.specs.declared.warning.Warning.{Warning}
use Rattle.lotos_warn.specs.declared.warning.Warning.TheVariants.{ExchangedGates}
use Rattle.lotos_warn.specs.ShownNames.{shown_names}
use Rattle.lotos_warn.specs.Warnings.{IsExchanged}
use Rattle.lotos_warn.specs.Additions.{Adds}
use Rattle.lotos_warn.proofs.Additions.{adds_as, adds_nothing}
use Rattle.lotos_warn.proofs.NameTests.{adds_end}
use Rattle.lotos_warn.proofs.ExchangedSites.{said, denied}
use Rattle.lotos_warn.proofs.exchanged_gates.warn_if_exchanged.Goals as goal

pub returns-in_ok-push : goal.returns-in_ok-push
returns-in_ok-push c =
    let old = c.args.warnings.now.items in
    let own = c.args.own.now in
    let exchanged = IsExchanged (texts c.args.site.now.actuals.now) own in
    let is = said exchanged (exchanged → ⊥) c.in_ok-is_exchanged.field-0 c.in_ok-is_exchanged.ensures c.if-branch.true in
    let callee = c.args.site.now.callee.now in
    let warning = ExchangedGates callee (shown_names own) in
    let all : Warning → Type 0 = λ w. exchanged × (w ≡ warning) in
    let pushed = c.in_ok-push.ensures.items ∙ (ap (λ p. old ++ ExchangedGates p c.in_ok-gates.gates ∷ []) c.in_ok-process.ensures
    ∙ ap (λ n. old ++ ExchangedGates callee n ∷ []) c.in_ok-gates.ensures) in
    subst (λ ws. Adds old ws all) (sym pushed)
    (adds_as old (old ++ warning ∷ []) (λ w. warning ≡ w) all (λ w. ((λ e. (is, sym e)), (λ h. sym h.1))) (adds_end old warning))

pub returns-else-branch : goal.returns-else-branch
returns-else-branch c =
    let exchanged = IsExchanged (texts c.args.site.now.actuals.now) c.args.own.now in
    let none = denied exchanged (exchanged → ⊥) c.in_ok-is_exchanged.field-0 c.in_ok-is_exchanged.ensures c.if-branch.false in
    adds_nothing c.args.warnings.now.items (λ w. exchanged × (w ≡ ExchangedGates c.args.site.now.callee.now (shown_names c.args.own.now)))
    (λ w h. none h.0)
