use Rattle.std.proofs.Common.{◌≡◌, ◌∙◌, Some, map, get_or, slice_get, ap, arith}
use Rattle.std.specs.Option.{option_map}
use Rattle.std.proofs.lemmas.Option.{slice_get-get_or, slice_get-map}
use Rattle.lotos_check.specs.FlatOf.{process_of}
use Rattle.lotos_warn.proofs.RankedLabels.{get_set_other, set_next}
use Rattle.lotos_warn.proofs.process_labels.set_labels.Goals as goal

pub returns-clause-set : goal.returns-clause-set
returns-clause-set c =
    let given = c.args.processes.now in
    let number = c.args.number in
    let process = get_or given number c.index-processes-number.result in
    let at : slice_get (map process_of given) number ≡ Some (process_of process) =
    slice_get-map process_of given number ∙ ap (option_map process_of) (slice_get-get_or given number c.index-processes-number.result (omega arith)) in
    set_next (map process_of given) c.args.known.now.items number (process_of process) c.in_ok-labels.labels at c.requires.within
    (rw c.as_slice.ensures.value at c.in_ok-labels.ensures)

pub returns-clause-others : goal.returns-clause-others
returns-clause-others c = λ j apart. get_set_other c.args.known.now.items c.args.number j c.in_ok-labels.labels apart
