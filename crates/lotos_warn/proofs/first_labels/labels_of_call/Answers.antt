use Rattle.std.proofs.Common.{◌≡◌, ◌∙◌, Some, map, get_or, slice_get, length, refl, ap, arith}
use Rattle.std.specs.Option.{option_map}
use Rattle.std.proofs.lemmas.Result.{IfOk-weaker}
use Rattle.std.proofs.lemmas.Option.{slice_get-get_or, slice_get-map, slice_get_read}
use Rattle.lotos_check.specs.FlatOf.{process_of}
use Rattle.lotos_warn.proofs.LabelSets.{call_exactly}
use Rattle.lotos_warn.proofs.first_labels.labels_of_call.Goals as goal

pub returns-then-process-known : goal.returns-then-process-known
returns-then-process-known c =
    let given = c.args.processes.now in
    let number = c.args.process in
    let process = get_or given number c.index-processes-process.result in
    let at : slice_get (map process_of given) number ≡ Some (process_of process) =
    slice_get-map process_of given number ∙ ap (option_map process_of) (slice_get-get_or given number c.index-processes-process.result (omega arith)) in
    let labels = c.index-known-process.result in
    let kept : slice_get c.args.known.now number ≡ Some labels =
    slice_get_read c.args.known.now (length c.args.known.now) number labels refl (omega arith) c.index-known-process.is in
    IfOk-weaker c.renamed.result _ _
    (λ r h. call_exactly (map process_of given) c.args.known.now number c.args.gates.now (process_of process) labels r at kept h)
    (rw c.as_slice.ensures.value at c.renamed.ensures)
