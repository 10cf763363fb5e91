use Rattle.std.proofs.Common.{◌≡◌, [], ◌∷◌, ◌++◌, map, sym, ap, ◌∙◌, subst}
use Rattle.lotos_check.specs.NameLists.{In}
use Rattle.lotos_check.proofs.NameTests.{name_found, name_missing}
use Rattle.lotos_warn.specs.declared.warning.Warning.TheVariants.{UnusedHidden}
use Rattle.lotos_warn.specs.Additions.{Adds, IsUnusedOfHiding}
use Rattle.lotos_warn.proofs.Additions.{adds_as, adds_nothing}
use Rattle.lotos_warn.proofs.NameTests.{adds_end}
use Rattle.lotos_warn.proofs.HidingWarnings.{hidden_one, hidden_never}
use Rattle.lotos_warn.proofs.used_gates.warn_if_unused_hidden.Goals as goal

pub returns-in_ok-push : goal.returns-in_ok-push
returns-in_ok-push c =
    let used = map (λ k. k.now) c.args.used.now.keys in
    let gate = c.args.gate.now in
    let missing = name_missing (λ k. k.now) c.text.result.now c.args.used.now.keys (sym c.contains.ensures ∙ c.if-not-contains.true) in
    let none = subst (λ n. In n used → ⊥) c.text.ensures.bytes missing in
    let pushed = c.in_ok-push.ensures.items ∙ ap (λ g. c.args.warnings.now.items ++ UnusedHidden g ∷ []) c.in_ok-gate.ensures in
    subst (λ ws. Adds c.args.warnings.now.items ws (IsUnusedOfHiding used (gate ∷ []))) (sym pushed)
    (adds_as c.args.warnings.now.items (c.args.warnings.now.items ++ UnusedHidden gate ∷ []) (λ w. UnusedHidden gate ≡ w)
    (IsUnusedOfHiding used (gate ∷ [])) (hidden_one used gate none)
    (adds_end c.args.warnings.now.items (UnusedHidden gate)))

pub returns-else-not-contains : goal.returns-else-not-contains
returns-else-not-contains c =
    let used = map (λ k. k.now) c.args.used.now.keys in
    let found = name_found (λ k. k.now) c.text.result.now c.args.used.now.keys (sym c.contains.ensures ∙ c.if-not-contains.false) in
    adds_nothing c.args.warnings.now.items (IsUnusedOfHiding used (c.args.gate.now ∷ []))
    (hidden_never used c.args.gate.now (subst (λ n. In n used) c.text.ensures.bytes found))
