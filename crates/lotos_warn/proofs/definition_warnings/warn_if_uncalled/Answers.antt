use Rattle.std.proofs.Common.{◌≡◌, [], ◌∷◌, ◌++◌, sym, ap, ◌∙◌, subst}
use Rattle.lotos_text.specs.AstView.{name_of}
use Rattle.lotos_text.specs.AstOf.{definition_view}
use Rattle.lotos_warn.specs.declared.warning.Warning.TheVariants.{UncalledProcess}
use Rattle.lotos_warn.specs.Additions.{Adds, IsUncalledAt}
use Rattle.lotos_warn.proofs.Additions.{adds_as, adds_nothing}
use Rattle.lotos_warn.proofs.NameTests.{number_found, number_missing, adds_end}
use Rattle.lotos_warn.proofs.DefinitionWarnings.{uncalled_one, uncalled_never}
use Rattle.lotos_text.proofs.DefinitionParts.{name_shown}
use Rattle.lotos_warn.proofs.definition_warnings.warn_if_uncalled.Goals as goal

pub returns-in_ok-push : goal.returns-in_ok-push
returns-in_ok-push c =
    let called = c.args.called.now.keys in
    let d = definition_view c.args.process.now in
    let none = number_missing c.args.number called (sym c.contains.ensures ∙ c.if-not-contains.true) in
    let pushed = c.in_ok-push.ensures.items ∙ ap (λ p. c.args.warnings.now.items ++ UncalledProcess p ∷ [])
    (c.in_ok-process.ensures ∙ name_shown c.args.process.now) in
    subst (λ ws. Adds c.args.warnings.now.items ws (IsUncalledAt called c.args.number d)) (sym pushed)
    (adds_as c.args.warnings.now.items (c.args.warnings.now.items ++ UncalledProcess (name_of d) ∷ []) (λ w. UncalledProcess (name_of d) ≡ w)
    (IsUncalledAt called c.args.number d) (uncalled_one called c.args.number d none)
    (adds_end c.args.warnings.now.items (UncalledProcess (name_of d))))

pub returns-else-not-contains : goal.returns-else-not-contains
returns-else-not-contains c =
    let called = c.args.called.now.keys in
    let d = definition_view c.args.process.now in
    let some = number_found c.args.number called (sym c.contains.ensures ∙ c.if-not-contains.false) in
    adds_nothing c.args.warnings.now.items (IsUncalledAt called c.args.number d) (uncalled_never called c.args.number d some)
