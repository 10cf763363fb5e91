use Rattle.std.proofs.Common.{◌<◌, ◌≤◌, ◌≡◌, ℕ, List, [], length, map, get_or, arith, refl, Bor}
use Rattle.std.proofs.lemmas.List.{drop_all}
use Rattle.lotos_check.specs.NameLists.{In}
use Rattle.lotos_check.proofs.Pairs.{drop_at}
use Rattle.lotos_warn.proofs.Additions.{loop_next, loop_end}
use Rattle.lotos_warn.proofs.SharedNames.{shared_split}
use Rattle.lotos_warn.proofs.gate_names.insert_shared.Goals as goal

pub loop-name-preserved : goal.loop-name-preserved
loop-name-preserved c =
    let within : c.loop-name.name-index < length c.args.from.now = omega arith in
    let others = map (λ k. k.now) c.args.others.now.keys in
    let item : Bor (List ℕ) = get_or c.args.from.now c.loop-name.name-index (record { ref_ptr = (0, 0); now = [] }) in
    loop_next (λ ks n. In n others × In n (map (λ k. k.now) ks)) (λ k n. In n others × (k.now ≡ n))
    (λ k ks n. shared_split others k.now (map (λ k. k.now) ks) n) (λ n h. h.1)
    (map (λ k. k.now) c.args.into.now.keys) (map (λ k. k.now) c.loop-name.into.keys) (map (λ k. k.now) c.insert_if_shared.new.into.keys)
    (λ n. In n others × In n (map (λ k. k.now) c.args.from.now)) _ _ item
    (drop_at c.args.from.now c.loop-name.name-index _ item within refl)
    c.loop-name.invariant c.in_ok-insert_if_shared.ensures

pub returns : goal.returns
returns c =
    let done : length c.args.from.now ≤ c.loop-name.name-index = omega arith in
    let others = map (λ k. k.now) c.args.others.now.keys in
    loop_end (λ ks n. In n others × In n (map (λ k. k.now) ks)) (λ k n. In n others × (k.now ≡ n))
    (λ k ks n. shared_split others k.now (map (λ k. k.now) ks) n) (λ n h. h.1)
    (map (λ k. k.now) c.args.into.now.keys) (map (λ k. k.now) c.loop-name.into.keys)
    (λ n. In n others × In n (map (λ k. k.now) c.args.from.now)) _ (drop_all c.loop-name.name-index c.args.from.now done) c.loop-name.invariant
