use Rattle.std.proofs.Common.{◌≡◌, ◌∙◌, Some, map, get_or, slice_get, ap, arith}
use Rattle.std.specs.Option.{option_map}
use Rattle.std.proofs.lemmas.Option.{slice_get-get_or, slice_get-map}
use Rattle.lotos_check.specs.FlatOf.{process_of}
use Rattle.lotos_warn.proofs.ExitingNumbers.{round_start, round_next}
use Rattle.lotos_warn.proofs.termination.add_round.Goals as goal

pub loop-number-init : goal.loop-number-init
loop-number-init c = round_start (map process_of c.args.processes.now) c.args.exiting.now.keys

pub loop-number-preserved : goal.loop-number-preserved
loop-number-preserved c =
    let given = c.args.processes.now in
    let number = c.loop-number.number in
    let process = get_or given number c.index-processes-number.result in
    let at : slice_get (map process_of given) number ≡ Some (process_of process) =
    slice_get-map process_of given number ∙ ap (option_map process_of) (slice_get-get_or given number c.index-processes-number.result (omega arith)) in
    round_next (map process_of given) c.args.exiting.now.keys c.loop-number.exiting.keys c.add_if_exiting.new.exiting.keys number (process_of process) at
    c.loop-number.invariant c.in_ok-add_if_exiting.ensures
