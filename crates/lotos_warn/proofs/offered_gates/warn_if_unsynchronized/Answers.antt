use Rattle.std.proofs.Common.{◌≡◌, [], ◌∷◌, ◌++◌, map, sym, ap, ◌∙◌, subst}
use Rattle.lotos_check.specs.NameLists.{In}
use Rattle.lotos_check.proofs.NameTests.{name_found, name_missing}
use Rattle.lotos_warn.specs.declared.warning.Warning.TheVariants.{UnsynchronizedHidden}
use Rattle.lotos_warn.specs.Additions.{Adds, IsApartOfHiding}
use Rattle.lotos_warn.proofs.Additions.{adds_as, adds_nothing}
use Rattle.lotos_warn.proofs.NameTests.{adds_end}
use Rattle.lotos_warn.proofs.ListWarnings.{apart_one, apart_never}
use Rattle.lotos_warn.proofs.offered_gates.warn_if_unsynchronized.Goals as goal

pub returns-in_ok-push : goal.returns-in_ok-push
returns-in_ok-push c =
    let apart = map (λ k. k.now) c.args.apart.now.keys in
    let gate = c.args.gate.now in
    let found = name_found (λ k. k.now) c.text.result.now c.args.apart.now.keys (sym c.contains.ensures ∙ c.if-contains.true) in
    let some = subst (λ n. In n apart) c.text.ensures.bytes found in
    let pushed = c.in_ok-push.ensures.items ∙ ap (λ g. c.args.warnings.now.items ++ UnsynchronizedHidden g ∷ []) c.in_ok-gate.ensures in
    subst (λ ws. Adds c.args.warnings.now.items ws (IsApartOfHiding apart (gate ∷ []))) (sym pushed)
    (adds_as c.args.warnings.now.items (c.args.warnings.now.items ++ UnsynchronizedHidden gate ∷ []) (λ w. UnsynchronizedHidden gate ≡ w)
    (IsApartOfHiding apart (gate ∷ [])) (apart_one apart gate some)
    (adds_end c.args.warnings.now.items (UnsynchronizedHidden gate)))

pub returns-else-contains : goal.returns-else-contains
returns-else-contains c =
    let apart = map (λ k. k.now) c.args.apart.now.keys in
    let missing = name_missing (λ k. k.now) c.text.result.now c.args.apart.now.keys (sym c.contains.ensures ∙ c.if-contains.false) in
    adds_nothing c.args.warnings.now.items (IsApartOfHiding apart (c.args.gate.now ∷ []))
    (apart_never apart c.args.gate.now (subst (λ n. In n apart → ⊥) c.text.ensures.bytes missing))
