use Rattle.lotos_pattern.proofs.StepRows.{blank_row_adds_none}
use Rattle.lotos_pattern.proofs.step_rows.make_row.Goals as goal

pub returns-in_ok-row : goal.returns-in_ok-row
returns-in_ok-row c = blank_row_adds_none _ c.add_empty_rows.new.rows.items c.args.place c.in_ok-row.row c.in_ok-add_empty_rows.ensures c.in_ok-row.ensures
