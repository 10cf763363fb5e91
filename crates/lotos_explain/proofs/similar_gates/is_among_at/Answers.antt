use Rattle.lotos_explain.proofs.SimilarNames.{among_item}
use Rattle.lotos_explain.proofs.similar_gates.is_among_at.Goals as goal

pub returns-then-gate-at : goal.returns-then-gate-at
returns-then-gate-at c = λ same.
    among_item c.args.gates.now c.loop-gate.gate-index c.gate-item.result c.args.at c.loop-gate-test.true c.gate-item.is c.if-gate-at.true
