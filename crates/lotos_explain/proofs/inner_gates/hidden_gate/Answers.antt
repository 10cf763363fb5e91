use Rattle.std.specs.Prelude.{[]}
use Rattle.lotos_text.specs.AstOf.{definition_view}
use Rattle.lotos_explain.proofs.InnerGates.{hidden_in_whole}
use Rattle.lotos_explain.proofs.SimilarNames.{some_weaker}
use Rattle.lotos_explain.proofs.inner_gates.hidden_gate.Goals as goal

pub returns : goal.returns
returns c =
    some_weaker c.hidden_in_definition.result (hidden_in_whole (definition_view c.args.specification.now.whole) c.args.name.now)
    (c.hidden_in_definition.ensures [] 0)
