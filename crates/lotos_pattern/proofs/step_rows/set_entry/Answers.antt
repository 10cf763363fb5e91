use Rattle.std.proofs.Common.{refl}
use Rattle.std.proofs.lemmas.Option.{slice_get_read}
use Rattle.lotos_pattern.proofs.StepRows.{set_adds_only}
use Rattle.lotos_pattern.proofs.step_rows.set_entry.Goals as goal

pub returns-in-Some-get_mut : goal.returns-in-Some-get_mut
returns-in-Some-get_mut c next meant =
    let rows = c.args.rows.now in
    let here = slice_get_read rows.items rows.len c.args.place c.in-Some.row.now rows.ok.0 (c.in-Some.ensures.variant.0 refl) c.in-Some.ensures.value in
    set_adds_only rows.items c.args.place c.in-Some.row.now c.args.label c.args.entry next here meant
