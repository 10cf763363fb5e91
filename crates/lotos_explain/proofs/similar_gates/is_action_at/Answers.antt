use Rattle.std.proofs.lemmas.Bool.{eqb-true}
use Rattle.lotos_explain.proofs.SimilarNames.{acts_at}
use Rattle.lotos_explain.proofs.similar_gates.is_action_at.Goals as goal

pub returns-in-Gate : goal.returns-in-Gate
returns-in-Gate c = λ body same. rw c.in-Gate.is (acts_at c.in-Gate.gate body c.args.at (eqb-true c.in-Gate.gate.at c.args.at same))
