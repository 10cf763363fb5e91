use Rattle.lotos_explain.proofs.SimilarNames.{synchronizes_at}
use Rattle.lotos_explain.proofs.similar_gates.is_in_sync_at.Goals as goal

pub returns-in-Gates : goal.returns-in-Gates
returns-in-Gates c = λ left right same.
    rw c.in-Gates.is (synchronizes_at left right c.in-Gates.gates.items c.args.at (rw c.as_slice.ensures.value at (c.is_among_at.ensures same)))
