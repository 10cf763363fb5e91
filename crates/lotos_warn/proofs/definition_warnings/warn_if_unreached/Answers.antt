use Rattle.std.proofs.Common.{◌≡◌, [], ◌∷◌, ◌++◌, sym, ap, ◌∙◌, subst}
use Rattle.lotos_text.specs.AstView.{name_of}
use Rattle.lotos_text.specs.AstOf.{definition_view}
use Rattle.lotos_warn.specs.declared.warning.Warning.TheVariants.{UnreachedProcess}
use Rattle.lotos_warn.specs.Additions.{Adds, IsUnreachedAt}
use Rattle.lotos_warn.proofs.Additions.{adds_as, adds_nothing}
use Rattle.lotos_warn.proofs.NameTests.{adds_end}
use Rattle.lotos_warn.proofs.DefinitionWarnings.{unreached_one, unreached_never}
use Rattle.lotos_text.proofs.DefinitionParts.{name_shown}
use Rattle.lotos_warn.proofs.definition_warnings.warn_if_unreached.Goals as goal

pub returns-in_ok-push : goal.returns-in_ok-push
returns-in_ok-push c =
    let called = c.args.called.now.keys in
    let reached = c.args.reached.now.keys in
    let d = definition_view c.args.process.now in
    let pushed = c.in_ok-push.ensures.items ∙ ap (λ p. c.args.warnings.now.items ++ UnreachedProcess p ∷ [])
    (c.in_ok-process.ensures ∙ name_shown c.args.process.now) in
    subst (λ ws. Adds c.args.warnings.now.items ws (IsUnreachedAt called reached c.args.number d)) (sym pushed)
    (adds_as c.args.warnings.now.items (c.args.warnings.now.items ++ UnreachedProcess (name_of d) ∷ []) (λ w. UnreachedProcess (name_of d) ≡ w)
    (IsUnreachedAt called reached c.args.number d) (unreached_one called reached c.args.number d c.if-is_unreached.ensures)
    (adds_end c.args.warnings.now.items (UnreachedProcess (name_of d))))

pub returns-else-is_unreached : goal.returns-else-is_unreached
returns-else-is_unreached c =
    let called = c.args.called.now.keys in
    let reached = c.args.reached.now.keys in
    let d = definition_view c.args.process.now in
    adds_nothing c.args.warnings.now.items (IsUnreachedAt called reached c.args.number d)
    (unreached_never called reached c.args.number d c.if-is_unreached.ensures)
