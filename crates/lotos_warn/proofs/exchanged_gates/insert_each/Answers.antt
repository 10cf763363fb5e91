use Rattle.std.proofs.Common.{◌<◌, ◌≤◌, ◌≡◌, length, map, arith}
use Rattle.std.proofs.lemmas.List.{drop_all}
use Rattle.lotos_check.specs.NameLists.{In}
use Rattle.lotos_check.proofs.Pairs.{drop_at}
use Rattle.lotos_warn.proofs.Additions.{loop_next, loop_end}
use Rattle.lotos_warn.proofs.exchanged_gates.insert_each.Goals as goal

pub loop-name-preserved : goal.loop-name-preserved
loop-name-preserved c =
    let within : c.loop-name.name-index < length c.args.names.now = omega arith in
    loop_next (λ ms n. In n ms) (λ m n. m ≡ n) (λ m ms n. ((λ h. h), (λ h. h))) (λ n i. i)
    (map (λ k. k.now) c.args.into.now.keys) (map (λ k. k.now) c.loop-name.into.keys) (map (λ k. k.now) c.insert_name.new.into.keys)
    (λ n. In n c.args.names.now) _ _ c.name-item.result
    (drop_at c.args.names.now c.loop-name.name-index _ c.name-item.result within c.name-item.is)
    c.loop-name.invariant c.in_ok-insert_name.ensures

pub returns : goal.returns
returns c =
    let done : length c.args.names.now ≤ c.loop-name.name-index = omega arith in
    loop_end (λ ms n. In n ms) (λ m n. m ≡ n) (λ m ms n. ((λ h. h), (λ h. h))) (λ n i. i)
    (map (λ k. k.now) c.args.into.now.keys) (map (λ k. k.now) c.loop-name.into.keys)
    (λ n. In n c.args.names.now) _ (drop_all c.loop-name.name-index c.args.names.now done) c.loop-name.invariant
