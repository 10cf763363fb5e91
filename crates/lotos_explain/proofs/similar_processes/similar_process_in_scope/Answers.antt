use Rattle.std.specs.Prelude.{[]}
use Rattle.std.proofs.lemmas.Result.{IfOk-weaker}
use Rattle.lotos_text.specs.AstOf.{definition_view}
use Rattle.lotos_explain.proofs.DefinitionScopes.{process_in_whole}
use Rattle.lotos_explain.proofs.SimilarNames.{some_weaker}
use Rattle.lotos_explain.proofs.similar_processes.similar_process_in_scope.Goals as goal

pub returns : goal.returns
returns c =
    IfOk-weaker c.process_in_definition.result _ _
    (λ found. some_weaker found (λ n. process_in_whole (definition_view c.args.specification.now.whole) c.args.at n.now))
    (c.process_in_definition.ensures [] 0 tt)
