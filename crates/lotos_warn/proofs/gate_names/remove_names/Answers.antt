use Rattle.std.proofs.Common.{◌+◌, ◌<◌, ◌≤◌, [], length, map, drop, ap, arith}
use Rattle.std.proofs.lemmas.List.{drop_all}
use Rattle.lotos_check.specs.NameLists.{texts}
use Rattle.lotos_check.proofs.Pairs.{drop_at}
use Rattle.lotos_warn.proofs.SharedNames.{rest_start, rest_next, rest_end}
use Rattle.lotos_warn.proofs.gate_names.remove_names.Goals as goal

pub loop-gate-init : goal.loop-gate-init
loop-gate-init c = rest_start (map (λ k. k.now) c.args.from.now.keys) [] (texts c.args.gates.now)

pub loop-gate-preserved : goal.loop-gate-preserved
loop-gate-preserved c =
    let within : c.loop-gate.gate-index < length c.args.gates.now = omega arith in
    rest_next (map (λ k. k.now) c.args.from.now.keys) (map (λ k. k.now) c.loop-gate.from.keys) (map (λ k. k.now) c.remove_name.new.from.keys)
    [] [] [] (texts (drop c.loop-gate.gate-index c.args.gates.now)) (texts (drop (c.loop-gate.gate-index + 1) c.args.gates.now))
    (texts c.args.gates.now) c.gate-item.result.name
    (ap texts (drop_at c.args.gates.now c.loop-gate.gate-index _ c.gate-item.result within c.gate-item.is))
    c.remove_name.ensures.removes (λ m. ((λ i. absurd i), (λ h. h.0))) c.loop-gate.invariant

pub returns : goal.returns
returns c =
    let done : length c.args.gates.now ≤ c.loop-gate.gate-index = omega arith in
    rest_end (map (λ k. k.now) c.args.from.now.keys) (map (λ k. k.now) c.loop-gate.from.keys) [] []
    (texts (drop c.loop-gate.gate-index c.args.gates.now)) (texts c.args.gates.now)
    (ap texts (drop_all c.loop-gate.gate-index c.args.gates.now done)) c.loop-gate.invariant
