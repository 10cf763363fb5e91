use Rattle.std.proofs.Common.{◌-◌, ◌<◌, arith, length, refl}
use Rattle.std.proofs.lemmas.Option.{slice_get_read}
use Rattle.lotos_check.proofs.ListIndices.{get_in}
use Rattle.lotos_origins.proofs.repeats.first_alike.Goals as goal

pub loop-number-preserved-then-branch : goal.loop-number-preserved-then-branch
loop-number-preserved-then-branch c =
    let bounds = c.args.turns.now.bounds.items in
    let n = c.loop-number.number in
    let within : n - 1 < length bounds = omega (arith, c.loop-number-test.true, c.loop-number.auto.number, c.len-number.ensures) in
    get_in bounds (n - 1) _ (slice_get_read bounds _ (n - 1) _ refl within c.index-bound.ensures)
