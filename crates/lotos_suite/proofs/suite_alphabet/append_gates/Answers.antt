use Rattle.std.proofs.Common.{arith, refl}
use Rattle.std.proofs.lemmas.Option.{slice_get_read}
use Rattle.lotos_suite.proofs.LabelsOfSuites.{gates_next, gates_whole, no_gates}
use Rattle.lotos_suite.proofs.suite_alphabet.append_gates.Goals as goal

pub loop-name-init : goal.loop-name-init
loop-name-init c = no_gates c.args.gates.now c.args.labels.now.items

pub loop-name-preserved : goal.loop-name-preserved
loop-name-preserved c =
    let l = c.loop-name in
    let at = slice_get_read c.args.own.now _ _ _ refl c.loop-name-test.true c.name-item.is in
    gates_next c.args.gates.now c.args.own.now l.name-index _ c.args.labels.now.items l.labels.items c.append_gate.new.labels.items at l.invariant
    c.in_ok-append_gate.ensures

pub returns : goal.returns
returns c =
    let l = c.loop-name in
    let end = c.loop-name-test.false in
    gates_whole c.args.gates.now c.args.own.now l.name-index c.args.labels.now.items l.labels.items (omega arith) l.invariant
