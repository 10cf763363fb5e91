use Rattle.lotos_pattern.specs.StepRows.{AddsNone, plain_rows}
use Rattle.lotos_pattern.proofs.step_rows.add_empty_rows.Given as goal

-- the rows that were there have all entries that say something
abbrev pub invariant-loop : goal.invariant-loop
invariant-loop l = AddsNone (plain_rows l.fn.rows.items) (plain_rows l.rows.items)
