use Rattle.std.proofs.Common.{List, subst, ℕ}
use Rattle.lotos_pattern.specs.StepRows.{AddsOnly, plain_rows}
use Rattle.lotos_pattern.proofs.StepRows.{adds_none_then_only}
use Rattle.lotos_pattern.proofs.step_rows.StepRows.store.Goals as goal

pub returns : goal.returns
returns c =
    let new : List (List ℕ) = plain_rows c.set_entry.new.rows.items in
    subst (λ rows. AddsOnly rows new c.args.place c.args.label c.args.next) c.self.view_is
    (adds_none_then_only _ _ new c.args.place c.args.label c.args.next c.make_row.ensures (c.set_entry.ensures c.args.next c.in-Some.ensures))
