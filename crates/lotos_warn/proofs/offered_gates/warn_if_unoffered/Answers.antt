use Rattle.std.proofs.Common.{◌≡◌, [], ◌∷◌, ◌++◌, map, sym, ap, ◌∙◌, subst}
use Rattle.lotos_check.specs.NameLists.{In}
use Rattle.lotos_check.proofs.NameTests.{name_found, name_missing}
use Rattle.lotos_warn.specs.declared.warning.Warning.TheVariants.{UnofferedGate}
use Rattle.lotos_warn.specs.Additions.{Adds, IsMissingOn}
use Rattle.lotos_warn.proofs.Additions.{adds_as, adds_nothing}
use Rattle.lotos_warn.proofs.NameTests.{adds_end}
use Rattle.lotos_warn.proofs.ListWarnings.{missing_one, missing_never}
use Rattle.lotos_warn.proofs.offered_gates.warn_if_unoffered.Goals as goal

pub returns-in_ok-push : goal.returns-in_ok-push
returns-in_ok-push c =
    let names = map (λ k. k.now) c.args.offered.now.keys in
    let gate = c.args.gate.now in
    let missing = name_missing (λ k. k.now) c.text.result.now c.args.offered.now.keys (sym c.contains.ensures ∙ c.if-not-contains.true) in
    let none = subst (λ n. In n names → ⊥) c.text.ensures.bytes missing in
    let pushed = c.in_ok-push.ensures.items ∙ ap (λ g. c.args.warnings.now.items ++ UnofferedGate g c.args.side ∷ []) c.in_ok-gate.ensures in
    subst (λ ws. Adds c.args.warnings.now.items ws (IsMissingOn names c.args.side gate)) (sym pushed)
    (adds_as c.args.warnings.now.items (c.args.warnings.now.items ++ UnofferedGate gate c.args.side ∷ []) (λ w. UnofferedGate gate c.args.side ≡ w)
    (IsMissingOn names c.args.side gate) (missing_one names c.args.side gate none)
    (adds_end c.args.warnings.now.items (UnofferedGate gate c.args.side)))

pub returns-else-not-contains : goal.returns-else-not-contains
returns-else-not-contains c =
    let names = map (λ k. k.now) c.args.offered.now.keys in
    let found = name_found (λ k. k.now) c.text.result.now c.args.offered.now.keys (sym c.contains.ensures ∙ c.if-not-contains.false) in
    adds_nothing c.args.warnings.now.items (IsMissingOn names c.args.side c.args.gate.now)
    (missing_never names c.args.side c.args.gate.now (subst (λ n. In n names) c.text.ensures.bytes found))
