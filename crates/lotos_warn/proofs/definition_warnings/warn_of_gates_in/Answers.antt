use Rattle.std.proofs.Common.{subst}
use Rattle.std.proofs.lemmas.Result.{on_ok_weaker}
use Rattle.lotos_text.specs.AstView.{body_of}
use Rattle.lotos_text.specs.AstOf.{definition_view}
use Rattle.lotos_warn.specs.Warnings.{IsListWarning}
use Rattle.lotos_warn.specs.Additions.{Adds, IsUseWarning}
use Rattle.lotos_warn.proofs.Additions.{adds_both}
use Rattle.lotos_text.proofs.DefinitionParts.{body_shown}
use Rattle.lotos_warn.proofs.definition_warnings.warn_of_gates_in.Goals as goal

pub returns : goal.returns
returns c =
    let this = c.args.definition.now in
    let d = definition_view this in
    let old = c.args.warnings.now.items in
    let mid = c.warn_of_unused_gates.new.warnings.items in
    let new = c.warn_of_lists.new.warnings.items in
    on_ok_weaker c.warn_of_lists.result
    (λ h. adds_both old mid new (IsUseWarning d) (IsListWarning (body_of d)) c.in_ok-warn_of_unused_gates.ensures
    (subst (λ b. Adds mid new (IsListWarning b)) (body_shown this) h))
    c.warn_of_lists.ensures.warns
