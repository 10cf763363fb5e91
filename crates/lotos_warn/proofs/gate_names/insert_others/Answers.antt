use Rattle.std.proofs.Common.{◌<◌, ◌≤◌, ◌≡◌, ℕ, List, [], length, map, get_or, arith, refl, Bor}
use Rattle.std.proofs.lemmas.List.{drop_all}
use Rattle.lotos_check.specs.NameLists.{In}
use Rattle.lotos_check.proofs.Pairs.{drop_at}
use Rattle.lotos_warn.specs.Additions.{IsVisible}
use Rattle.lotos_warn.proofs.Additions.{loop_next, loop_end}
use Rattle.lotos_warn.proofs.NameTests.{visible_split}
use Rattle.lotos_warn.proofs.gate_names.insert_others.Goals as goal

pub loop-name-preserved : goal.loop-name-preserved
loop-name-preserved c =
    let within : c.loop-name.name-index < length c.args.from.now = omega arith in
    let hidden = map (λ k. k.now) c.args.hidden.now.keys in
    let item : Bor (List ℕ) = get_or c.args.from.now c.loop-name.name-index (record { ref_ptr = (0, 0); now = [] }) in
    loop_next (λ ks n. IsVisible hidden (map (λ k. k.now) ks) n) (λ k n. (In n hidden → ⊥) × (k.now ≡ n))
    (λ k ks n. visible_split hidden k.now (map (λ k. k.now) ks) n) (λ n h. h.1)
    (map (λ k. k.now) c.args.into.now.keys) (map (λ k. k.now) c.loop-name.into.keys) (map (λ k. k.now) c.insert_other.new.into.keys)
    (λ n. IsVisible hidden (map (λ k. k.now) c.args.from.now) n) _ _ item
    (drop_at c.args.from.now c.loop-name.name-index _ item within refl)
    c.loop-name.invariant c.in_ok-insert_other.ensures

pub returns : goal.returns
returns c =
    let done : length c.args.from.now ≤ c.loop-name.name-index = omega arith in
    let hidden = map (λ k. k.now) c.args.hidden.now.keys in
    loop_end (λ ks n. IsVisible hidden (map (λ k. k.now) ks) n) (λ k n. (In n hidden → ⊥) × (k.now ≡ n))
    (λ k ks n. visible_split hidden k.now (map (λ k. k.now) ks) n) (λ n h. h.1)
    (map (λ k. k.now) c.args.into.now.keys) (map (λ k. k.now) c.loop-name.into.keys)
    (λ n. IsVisible hidden (map (λ k. k.now) c.args.from.now) n) _ (drop_all c.loop-name.name-index c.args.from.now done) c.loop-name.invariant
