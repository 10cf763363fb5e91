use Rattle.lotos_check.specs.NameLists.{texts}
use Rattle.lotos_explain.proofs.SimilarNames.{from_more, text_of_item}
use Rattle.lotos_explain.proofs.similar_names.similar_gate.Goals as goal

pub loop-gate-preserved : goal.loop-gate-preserved
loop-gate-preserved c =
    from_more (λ k. k.now) c.args.best c.loop-gate.closest c.in_ok-closest.closest (texts c.args.gates.now) c.gate-item.result.name
    (text_of_item c.args.gates.now c.loop-gate.gate-index c.gate-item.result c.loop-gate-test.true c.gate-item.is)
    c.loop-gate.invariant c.in_ok-closest.ensures.from
