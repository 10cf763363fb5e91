use Rattle.std.proofs.Common.{◌<◌, ◌≤◌, ◌≡◌, length, map, arith}
use Rattle.std.proofs.lemmas.List.{drop_all}
use Rattle.lotos_check.specs.NameLists.{In, texts}
use Rattle.lotos_check.proofs.Pairs.{drop_at}
use Rattle.lotos_warn.proofs.Additions.{loop_next, loop_end}
use Rattle.lotos_warn.proofs.gate_names.insert_names.Goals as goal

pub loop-gate-preserved : goal.loop-gate-preserved
loop-gate-preserved c =
    let within : c.loop-gate.gate-index < length c.args.gates.now = omega arith in
    loop_next (λ gs n. In n (texts gs)) (λ g n. g.name ≡ n) (λ g gs n. ((λ h. h), (λ h. h))) (λ n i. i)
    (map (λ k. k.now) c.args.into.now.keys) (map (λ k. k.now) c.loop-gate.into.keys) (map (λ k. k.now) c.insert_name.new.into.keys)
    (λ n. In n (texts c.args.gates.now)) _ _ c.gate-item.result
    (drop_at c.args.gates.now c.loop-gate.gate-index _ c.gate-item.result within c.gate-item.is)
    c.loop-gate.invariant c.in_ok-insert_name.ensures

pub returns : goal.returns
returns c =
    let done : length c.args.gates.now ≤ c.loop-gate.gate-index = omega arith in
    loop_end (λ gs n. In n (texts gs)) (λ g n. g.name ≡ n) (λ g gs n. ((λ h. h), (λ h. h))) (λ n i. i)
    (map (λ k. k.now) c.args.into.now.keys) (map (λ k. k.now) c.loop-gate.into.keys)
    (λ n. In n (texts c.args.gates.now)) _ (drop_all c.loop-gate.gate-index c.args.gates.now done) c.loop-gate.invariant
