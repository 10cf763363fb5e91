use Rattle.std.proofs.Common.{◌≡◌, ◌∙◌, ◌-◌, Some, map, length, get_or, slice_get, ap, arith}
use Rattle.std.specs.Option.{option_map}
use Rattle.std.proofs.lemmas.Option.{slice_get-get_or, slice_get-map}
use Rattle.lotos_check.specs.FlatOf.{process_of}
use Rattle.lotos_warn.proofs.ExitingNumbers.{sound_next}
use Rattle.lotos_warn.proofs.termination.add_backwards.Goals as goal

pub loop-back-preserved : goal.loop-back-preserved
loop-back-preserved c =
    let given = c.args.processes.now in
    let number = length given - 1 - c.loop-back.back in
    let process = get_or given number c.index-processes-number.result in
    let at : slice_get (map process_of given) number ≡ Some (process_of process) =
    slice_get-map process_of given number ∙ ap (option_map process_of) (slice_get-get_or given number c.index-processes-number.result (omega arith)) in
    sound_next (map process_of given) c.args.exiting.now.keys c.loop-back.exiting.keys c.add_if_exiting.new.exiting.keys number (process_of process) at
    c.loop-back.invariant c.in_ok-add_if_exiting.ensures
