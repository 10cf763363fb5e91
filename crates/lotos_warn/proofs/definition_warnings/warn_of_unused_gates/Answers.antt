use Rattle.std.proofs.Common.{◌↔◌, map, ap, ◌∙◌, subst}
use Rattle.std.proofs.lemmas.Result.{on_ok_weaker}
use Rattle.lotos_text.specs.AstView.{name_of, formals_of, body_of}
use Rattle.lotos_text.specs.AstOf.{behaviour_view, definition_view}
use Rattle.lotos_text.specs.declared.ast.Definition.{out-Definition}
use Rattle.lotos_check.specs.NameLists.{Name, In}
use Rattle.lotos_warn.specs.Warnings.{UsesFree, IsHidingWarning}
use Rattle.lotos_warn.specs.Additions.{Adds, IsUnusedAmong, IsUnusedIn}
use Rattle.lotos_warn.proofs.Additions.{adds_as, adds_alone, adds_both}
use Rattle.lotos_text.proofs.DefinitionParts.{name_shown, formals_shown, body_shown}
use Rattle.lotos_warn.proofs.DefinitionWarnings.{unused_in}
use Rattle.lotos_warn.proofs.definition_warnings.warn_of_unused_gates.Goals as goal

pub returns : goal.returns
returns c =
    let this = c.args.definition.now in
    let d = definition_view this in
    let used = map (λ k. k.now) c.add_used.new.into.keys in
    let old = c.args.warnings.now.items in
    let mid = c.add_used.new.warnings.items in
    let new = c.warn_of_unused.new.warnings.items in
    let alone = adds_alone (map (λ k. k.now) c.new-used.result.keys) used (UsesFree (behaviour_view (out-Definition this).body))
    (ap (map (λ k. k.now)) c.new-used.ensures.empty) c.in_ok-add_used.ensures.uses in
    let own = subst (λ b. (n : Name) → In n used ↔ UsesFree b n) (body_shown this) alone in
    let hidden = subst (λ b. Adds old mid (IsHidingWarning b)) (body_shown this) c.in_ok-add_used.ensures.warns in
    on_ok_weaker c.warn_of_unused.result
    (λ h. adds_both old mid new (IsHidingWarning (body_of d)) (IsUnusedIn d) hidden
    (adds_as mid new (IsUnusedAmong used (name_of d).name (formals_of d)) (IsUnusedIn d) (unused_in d used own)
    (subst (λ gs. Adds mid new (IsUnusedAmong used (name_of d).name gs)) (c.as_slice.ensures.value ∙ formals_shown this)
    (subst (λ p. Adds mid new (IsUnusedAmong used p.name c.as_slice.result.now)) (name_shown this) h))))
    c.warn_of_unused.ensures
