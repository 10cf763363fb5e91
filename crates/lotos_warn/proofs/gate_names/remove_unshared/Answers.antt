use Rattle.std.proofs.Common.{◌<◌, ◌≤◌, length, map, arith}
use Rattle.std.proofs.lemmas.List.{drop_all}
use Rattle.lotos_check.proofs.Pairs.{drop_at}
use Rattle.lotos_warn.proofs.SharedNames.{rest_start, rest_next, rest_end}
use Rattle.lotos_warn.proofs.gate_names.remove_unshared.Goals as goal

pub loop-name-init : goal.loop-name-init
loop-name-init c =
    let first = map (λ k. k.now) c.args.first.now.keys in
    let second = map (λ k. k.now) c.args.second.now.keys in
    record { first = rest_start first second c.args.list.now; second = rest_start second first c.args.list.now }

pub loop-name-preserved : goal.loop-name-preserved
loop-name-preserved c =
    let within : c.loop-name.name-index < length c.args.list.now = omega arith in
    let first = map (λ k. k.now) c.args.first.now.keys in
    let second = map (λ k. k.now) c.args.second.now.keys in
    let now = map (λ k. k.now) c.loop-name.first.keys in
    let others = map (λ k. k.now) c.loop-name.second.keys in
    let new = map (λ k. k.now) c.remove_if_unshared.new.first.keys in
    let fewer = map (λ k. k.now) c.remove_if_unshared.new.second.keys in
    let next = drop_at c.args.list.now c.loop-name.name-index _ c.name-item.result within c.name-item.is in
    record {
      first = rest_next first now new second others fewer _ _ c.args.list.now c.name-item.result next
          c.remove_if_unshared.ensures.first c.remove_if_unshared.ensures.second c.loop-name.invariant.first;
      second = rest_next second others fewer first now new _ _ c.args.list.now c.name-item.result next
          c.remove_if_unshared.ensures.second c.remove_if_unshared.ensures.first c.loop-name.invariant.second;
    }

pub returns-clause-first : goal.returns-clause-first
returns-clause-first c =
    let done : length c.args.list.now ≤ c.loop-name.name-index = omega arith in
    rest_end (map (λ k. k.now) c.args.first.now.keys) (map (λ k. k.now) c.loop-name.first.keys) (map (λ k. k.now) c.args.second.now.keys)
    (map (λ k. k.now) c.loop-name.second.keys) _ c.args.list.now (drop_all c.loop-name.name-index c.args.list.now done) c.loop-name.invariant.first

pub returns-clause-second : goal.returns-clause-second
returns-clause-second c =
    let done : length c.args.list.now ≤ c.loop-name.name-index = omega arith in
    rest_end (map (λ k. k.now) c.args.second.now.keys) (map (λ k. k.now) c.loop-name.second.keys) (map (λ k. k.now) c.args.first.now.keys)
    (map (λ k. k.now) c.loop-name.first.keys) _ c.args.list.now (drop_all c.loop-name.name-index c.args.list.now done) c.loop-name.invariant.second
