use Rattle.std.specs.Prelude.{[]}
use Rattle.std.proofs.lemmas.Result.{IfOk-weaker}
use Rattle.lotos_text.specs.AstOf.{definition_view}
use Rattle.lotos_explain.proofs.DefinitionScopes.{gate_at_call_in_whole}
use Rattle.lotos_explain.proofs.SimilarNames.{some_weaker}
use Rattle.lotos_explain.proofs.similar_gates.similar_gate_at_call.Goals as goal

pub returns : goal.returns
returns c =
    IfOk-weaker c.gate_in_definition.result _ _
    (λ found. some_weaker found (λ n. gate_at_call_in_whole (definition_view c.args.specification.now.whole) c.args.at n.now))
    (c.gate_in_definition.ensures [] 0)
