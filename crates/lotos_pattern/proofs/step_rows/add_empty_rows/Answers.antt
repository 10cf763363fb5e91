use Rattle.lotos_pattern.proofs.StepRows.{empty_row_adds_none}
use Rattle.lotos_pattern.proofs.step_rows.add_empty_rows.Goals as goal

pub loop-preserved : goal.loop-preserved
loop-preserved c = empty_row_adds_none _ c.loop.rows.items c.push.new.self.items c.new.result c.loop.invariant c.new.ensures.items c.in_ok-push.ensures.items
