use Rattle.lotos_check.proofs.ListIndices.{in_read}
use Rattle.lotos_check.proofs.guardedness.rank_in_order.Goals as goal

pub try_rank-next-requires-clause-within : goal.try_rank-next-requires-clause-within
try_rank-next-requires-clause-within c =
    c.requires.within _ (in_read c.args.order.now c.loop-process.process-index 0 c.loop-process-test.true)
