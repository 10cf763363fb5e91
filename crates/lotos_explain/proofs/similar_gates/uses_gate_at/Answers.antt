use Rattle.lotos_explain.proofs.SimilarNames.{passes_at}
use Rattle.lotos_explain.proofs.similar_gates.uses_gate_at.Goals as goal

pub returns-in-Call : goal.returns-in-Call
returns-in-Call c = λ same.
    rw c.in-Call.is (passes_at c.in-Call.name c.in-Call.gates.items c.args.at (rw c.as_slice.ensures.value at (c.is_among_at.ensures same)))
