use Rattle.std.proofs.Common.{◌≡◌, ◌∙◌, Some, map, get_or, slice_get, ap, arith}
use Rattle.std.specs.Option.{option_map}
use Rattle.std.proofs.lemmas.List.{length-map}
use Rattle.std.proofs.lemmas.Option.{slice_get-get_or, slice_get-map}
use Rattle.lotos_check.specs.FlatOf.{flat_of, process_of}
use Rattle.lotos_warn.specs.Additions.{ContainsCallOf, IsCalledByNumber}
use Rattle.lotos_warn.proofs.Additions.{adds_as, adds_nothing}
use Rattle.lotos_warn.proofs.CallAdditions.{number_calls, number_calls_none}
use Rattle.lotos_warn.proofs.process_calls.add_calls_of.Goals as goal

pub returns-in_ok-add_calls-clause-adds : goal.returns-in_ok-add_calls-clause-adds
returns-in_ok-add_calls-clause-adds c =
    let given = c.args.processes.now in
    let number = c.args.caller in
    let process = get_or given number c.index-processes-caller.result in
    let at : slice_get (map process_of given) number ≡ Some (process_of process) =
    slice_get-map process_of given number ∙ ap (option_map process_of) (slice_get-get_or given number c.index-processes-caller.result (omega arith)) in
    adds_as c.args.called.now.keys c.add_calls.new.called.keys (ContainsCallOf (flat_of process.body)) (IsCalledByNumber (map process_of given) number)
    (number_calls (map process_of given) number (process_of process) at)
    c.in_ok-add_calls.ensures.adds

pub returns-else-caller-processes-clause-adds : goal.returns-else-caller-processes-clause-adds
returns-else-caller-processes-clause-adds c =
    let same = length-map c.args.processes.now process_of in
    adds_nothing c.args.called.now.keys (IsCalledByNumber (map process_of c.args.processes.now) c.args.caller)
    (number_calls_none (map process_of c.args.processes.now) c.args.caller (omega arith))
