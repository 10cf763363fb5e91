use Rattle.std.specs.Prelude.{[], map}
use Rattle.std.proofs.lemmas.Result.{IfOk-weaker}
use Rattle.lotos_text.specs.AstOf.{definition_view}
use Rattle.lotos_explain.proofs.EnclosingDefinitions.{scopes_in_whole}
use Rattle.lotos_explain.proofs.SimilarNames.{some_weaker}
use Rattle.lotos_explain.proofs.enclosing_definitions.scopes_at.Goals as goal

pub returns : goal.returns
returns c =
    IfOk-weaker c.scopes_in_definition.result _ _
    (λ found. some_weaker found (λ scopes. scopes_in_whole (definition_view c.args.specification.now.whole) (map (λ d. definition_view d.now) scopes.items)))
    (c.scopes_in_definition.ensures [] 0 tt)
