use Rattle.std.proofs.Common.{◌≡◌, [], ◌∷◌, ◌++◌, sym, ap, ◌∙◌, subst, inl, inr}
use Rattle.lotos_text.specs.AstView.{name_of}
use Rattle.lotos_text.specs.AstOf.{definition_view}
use Rattle.lotos_warn.specs.declared.warning.Warning.TheVariants.{NeverExits}
use Rattle.lotos_warn.specs.Additions.{Adds, IsEndlessWhole}
use Rattle.lotos_warn.proofs.Additions.{adds_as, adds_nothing}
use Rattle.lotos_warn.proofs.NameTests.{adds_end}
use Rattle.lotos_warn.proofs.DefinitionWarnings.{endless_whole, endless_whole_never}
use Rattle.lotos_text.proofs.DefinitionParts.{name_shown}
use Rattle.lotos_warn.proofs.definition_warnings.warn_if_endless_whole.Goals as goal

pub returns-in_ok-push : goal.returns-in_ok-push
returns-in_ok-push c =
    let old = c.args.warnings.now.items in
    let d = definition_view c.args.whole.now in
    let pushed = c.in_ok-push.ensures.items ∙ ap (λ p. old ++ NeverExits p ∷ []) (c.in_ok-name.ensures ∙ name_shown c.args.whole.now) in
    subst (λ ws. Adds old ws (IsEndlessWhole c.args.exits d)) (sym pushed)
    (adds_as old (old ++ NeverExits (name_of d) ∷ []) (λ w. NeverExits (name_of d) ≡ w)
    (IsEndlessWhole c.args.exits d) (endless_whole c.args.exits d c.if-is_declared_exit.ensures c.if-not-exits.true)
    (adds_end old (NeverExits (name_of d))))

pub returns-else-not-exits : goal.returns-else-not-exits
returns-else-not-exits c =
    let d = definition_view c.args.whole.now in
    adds_nothing c.args.warnings.now.items (IsEndlessWhole c.args.exits d) (endless_whole_never c.args.exits d (inr c.if-not-exits.false))

pub returns-else-is_declared_exit : goal.returns-else-is_declared_exit
returns-else-is_declared_exit c =
    let d = definition_view c.args.whole.now in
    adds_nothing c.args.warnings.now.items (IsEndlessWhole c.args.exits d) (endless_whole_never c.args.exits d (inl c.if-is_declared_exit.ensures))
