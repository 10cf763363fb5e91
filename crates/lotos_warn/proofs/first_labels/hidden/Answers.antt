use Rattle.std.proofs.Common.{◌<◌, ◌≤◌, ◌↔◌, length, arith, subst}
use Rattle.std.proofs.lemmas.List.{drop_all}
use Rattle.lotos_check.proofs.Pairs.{drop_at}
use Rattle.lotos_warn.specs.LabelSets.{Has, IsHidden}
use Rattle.lotos_warn.proofs.ExitingNumbers.{both_ways}
use Rattle.lotos_warn.proofs.LabelSets.{hidden_next, hidden_end}
use Rattle.lotos_warn.proofs.first_labels.hidden.Goals as goal

pub loop-gate-init : goal.loop-gate-init
loop-gate-init c = λ x. ((λ h. h), (λ h. h))

pub loop-gate-preserved : goal.loop-gate-preserved
loop-gate-preserved c =
    let within : c.loop-gate.gate-index < length c.args.gates.now = omega arith in
    hidden_next c.args.inside c.loop-gate.labels c.hide_gate.new.labels c.args.gates.now _ _ c.gate-item.result
    (drop_at c.args.gates.now c.loop-gate.gate-index _ c.gate-item.result within c.gate-item.is)
    c.hide_gate.ensures c.loop-gate.invariant

pub returns : goal.returns
returns c = λ x.
    let done : length c.args.gates.now ≤ c.loop-gate.gate-index = omega arith in
    both_ways (hidden_end c.loop-gate.labels x)
    (subst (λ gs. IsHidden gs (Has c.loop-gate.labels) x ↔ IsHidden c.args.gates.now (Has c.args.inside) x)
    (drop_all c.loop-gate.gate-index c.args.gates.now done)
    (c.loop-gate.invariant x))
