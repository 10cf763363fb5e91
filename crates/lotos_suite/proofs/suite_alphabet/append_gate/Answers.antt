use Rattle.std.proofs.Common.{◌≡◌, Some, slice_get, subst, sym}
use Rattle.lotos_terms.proofs.NamesInOrder.{found_at, never_missing}
use Rattle.lotos_suite.proofs.LabelsOfSuites.{gate_added, gate_missing}
use Rattle.lotos_suite.proofs.suite_alphabet.append_gate.Goals as goal

pub returns-in_ok-push-in-Ok : goal.returns-in_ok-push-in-Ok
returns-in_ok-push-in-Ok c =
    let names = c.args.gates.now in
    let name = c.args.name.now in
    let at = subst (λ k. slice_get names k ≡ Some name) (sym c.of_number.ensures)
    (found_at names c.requires name c.in-Ok.number c.in-Ok.ensures.bound c.in-Ok.ensures.ok) in
    gate_added names name c.args.labels.now.items c.push.new.self.items c.of_number.result at c.in_ok-push-in-Ok.ensures.items

pub returns-in-Err : goal.returns-in-Err
returns-in-Err c = gate_missing c.args.gates.now c.args.name.now c.args.labels.now.items
    (λ there. never_missing c.args.gates.now c.requires c.args.name.now there c.in-Err.field-0 c.in-Err.ensures.position)
