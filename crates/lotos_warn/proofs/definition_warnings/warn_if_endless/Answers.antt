use Rattle.std.proofs.Common.{◌≡◌, [], ◌∷◌, ◌++◌, sym, ap, ◌∙◌, subst, inl, inr}
use Rattle.lotos_text.specs.AstView.{name_of}
use Rattle.lotos_text.specs.AstOf.{definition_view}
use Rattle.lotos_warn.specs.declared.warning.Warning.TheVariants.{NeverExits}
use Rattle.lotos_warn.specs.Additions.{Adds, IsEndlessAt}
use Rattle.lotos_warn.proofs.Additions.{adds_as, adds_nothing}
use Rattle.lotos_warn.proofs.NameTests.{number_found, number_missing, adds_end}
use Rattle.lotos_warn.proofs.DefinitionWarnings.{endless_one, endless_never}
use Rattle.lotos_text.proofs.DefinitionParts.{name_shown}
use Rattle.lotos_warn.proofs.definition_warnings.warn_if_endless.Goals as goal

pub returns-in_ok-push : goal.returns-in_ok-push
returns-in_ok-push c =
    let exiting = c.args.exiting.now.keys in
    let old = c.args.warnings.now.items in
    let d = definition_view c.args.process.now in
    let none = number_missing c.args.number exiting (sym c.contains.ensures ∙ c.if-not-contains.true) in
    let pushed = c.in_ok-push.ensures.items ∙ ap (λ p. old ++ NeverExits p ∷ []) (c.in_ok-name.ensures ∙ name_shown c.args.process.now) in
    subst (λ ws. Adds old ws (IsEndlessAt exiting c.args.number d)) (sym pushed)
    (adds_as old (old ++ NeverExits (name_of d) ∷ []) (λ w. NeverExits (name_of d) ≡ w)
    (IsEndlessAt exiting c.args.number d) (endless_one exiting c.args.number d c.if-is_declared_exit.ensures none)
    (adds_end old (NeverExits (name_of d))))

pub returns-else-not-contains : goal.returns-else-not-contains
returns-else-not-contains c =
    let exiting = c.args.exiting.now.keys in
    let d = definition_view c.args.process.now in
    let some = number_found c.args.number exiting (sym c.contains.ensures ∙ c.if-not-contains.false) in
    adds_nothing c.args.warnings.now.items (IsEndlessAt exiting c.args.number d) (endless_never exiting c.args.number d (inr some))

pub returns-else-is_declared_exit : goal.returns-else-is_declared_exit
returns-else-is_declared_exit c =
    let exiting = c.args.exiting.now.keys in
    let d = definition_view c.args.process.now in
    adds_nothing c.args.warnings.now.items (IsEndlessAt exiting c.args.number d)
    (endless_never exiting c.args.number d (inl c.if-is_declared_exit.ensures))
