use Rattle.std.proofs.Common.{◌<◌, ◌≤◌, ◌≡◌, ℕ, List, [], length, map, get_or, arith, refl, Bor}
use Rattle.std.proofs.lemmas.List.{drop_all}
use Rattle.lotos_check.specs.NameLists.{In}
use Rattle.lotos_check.proofs.Pairs.{drop_at}
use Rattle.lotos_warn.proofs.Additions.{loop_next, loop_end}
use Rattle.lotos_warn.proofs.gate_names.insert_all.Goals as goal

pub loop-name-preserved : goal.loop-name-preserved
loop-name-preserved c =
    let within : c.loop-name.name-index < length c.args.from.now = omega arith in
    let item : Bor (List ℕ) = get_or c.args.from.now c.loop-name.name-index (record { ref_ptr = (0, 0); now = [] }) in
    loop_next (λ ks n. In n (map (λ k. k.now) ks)) (λ k n. k.now ≡ n) (λ k ks n. ((λ h. h), (λ h. h))) (λ n i. i)
    (map (λ k. k.now) c.args.into.now.keys) (map (λ k. k.now) c.loop-name.into.keys) (map (λ k. k.now) c.insert_text.new.into.keys)
    (λ n. In n (map (λ k. k.now) c.args.from.now)) _ _ item
    (drop_at c.args.from.now c.loop-name.name-index _ item within refl)
    c.loop-name.invariant c.in_ok-insert_text.ensures

pub returns : goal.returns
returns c =
    let done : length c.args.from.now ≤ c.loop-name.name-index = omega arith in
    loop_end (λ ks n. In n (map (λ k. k.now) ks)) (λ k n. k.now ≡ n) (λ k ks n. ((λ h. h), (λ h. h))) (λ n i. i)
    (map (λ k. k.now) c.args.into.now.keys) (map (λ k. k.now) c.loop-name.into.keys)
    (λ n. In n (map (λ k. k.now) c.args.from.now)) _ (drop_all c.loop-name.name-index c.args.from.now done) c.loop-name.invariant
