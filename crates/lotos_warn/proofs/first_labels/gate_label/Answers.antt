use Rattle.std.proofs.Common.{◌≡◌, map, ap, refl, false}
use Rattle.lotos_warn.proofs.Additions.{adds_alone}
use Rattle.lotos_warn.proofs.LabelSets.{gate_exactly}
use Rattle.lotos_warn.proofs.first_labels.gate_label.Goals as goal

pub returns : goal.returns
returns c =
    gate_exactly (record { terminates = false; internal = false; gates = c.insert_name.new.into }) c.args.gate.now refl refl
    (adds_alone (map (λ k. k.now) c.new-gates.result.keys) (map (λ k. k.now) c.insert_name.new.into.keys) (λ n. c.args.gate.now ≡ n)
    (ap (map (λ k. k.now)) c.new-gates.ensures.empty) c.in_ok-insert_name.ensures)
