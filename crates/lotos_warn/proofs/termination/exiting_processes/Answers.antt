use Rattle.std.proofs.Common.{map, sym, subst}
use Rattle.std.proofs.lemmas.List.{length-map}
use Rattle.lotos_check.specs.FlatOf.{process_of}
use Rattle.lotos_warn.specs.Additions.{IsClosedBelow}
use Rattle.lotos_warn.proofs.ExitingNumbers.{all_exiting}
use Rattle.lotos_warn.proofs.termination.exiting_processes.Goals as goal

pub returns : goal.returns
returns c =
    let processes = map process_of c.args.processes.now in
    let numbers = c.loop-grew.exiting.keys in
    all_exiting processes numbers c.loop-grew.invariant.sound
    (subst (IsClosedBelow processes numbers) (sym (length-map c.args.processes.now process_of)) (c.loop-grew.invariant.closed c.loop-grew-test.false))
