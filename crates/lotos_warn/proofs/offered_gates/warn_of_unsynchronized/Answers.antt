use Rattle.std.proofs.Common.{◌<◌, ◌≤◌, [], ◌∷◌, length, map, arith}
use Rattle.std.proofs.lemmas.List.{drop_all}
use Rattle.lotos_check.proofs.Pairs.{drop_at}
use Rattle.lotos_warn.specs.Additions.{IsApartOfHiding}
use Rattle.lotos_warn.proofs.Additions.{loop_next, loop_end}
use Rattle.lotos_warn.proofs.ListWarnings.{apart_split, apart_none}
use Rattle.lotos_warn.proofs.offered_gates.warn_of_unsynchronized.Goals as goal

pub loop-gate-preserved : goal.loop-gate-preserved
loop-gate-preserved c =
    let within : c.loop-gate.gate-index < length c.args.gates.now = omega arith in
    let apart = map (λ k. k.now) c.args.apart.now.keys in
    loop_next (IsApartOfHiding apart) (λ g. IsApartOfHiding apart (g ∷ [])) (apart_split apart) (apart_none apart)
    c.args.warnings.now.items c.loop-gate.warnings.items c.warn_if_unsynchronized.new.warnings.items
    (IsApartOfHiding apart c.args.gates.now) _ _ c.gate-item.result
    (drop_at c.args.gates.now c.loop-gate.gate-index _ c.gate-item.result within c.gate-item.is)
    c.loop-gate.invariant c.in_ok-warn_if_unsynchronized.ensures

pub returns : goal.returns
returns c =
    let done : length c.args.gates.now ≤ c.loop-gate.gate-index = omega arith in
    let apart = map (λ k. k.now) c.args.apart.now.keys in
    loop_end (IsApartOfHiding apart) (λ g. IsApartOfHiding apart (g ∷ [])) (apart_split apart) (apart_none apart)
    c.args.warnings.now.items c.loop-gate.warnings.items
    (IsApartOfHiding apart c.args.gates.now) _ (drop_all c.loop-gate.gate-index c.args.gates.now done) c.loop-gate.invariant
