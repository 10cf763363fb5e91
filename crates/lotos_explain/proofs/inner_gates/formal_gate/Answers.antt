use Rattle.std.specs.Prelude.{[]}
use Rattle.lotos_text.specs.AstOf.{definition_view}
use Rattle.lotos_explain.proofs.InnerGates.{formal_in_whole}
use Rattle.lotos_explain.proofs.SimilarNames.{some_weaker}
use Rattle.lotos_explain.proofs.inner_gates.formal_gate.Goals as goal

pub returns : goal.returns
returns c =
    some_weaker c.formal_in_definition.result
    (λ n. formal_in_whole (definition_view c.args.specification.now.whole) c.args.name.now n.now)
    (c.formal_in_definition.ensures [] 0)
