use Rattle.std.proofs.Common.{◌+◌, ◌<◌, ◌≤◌, ◌↔◌, ◌⊎◌, [], length, map, drop, sym, subst, arith}
use Rattle.std.proofs.lemmas.List.{drop_all}
use Rattle.lotos_check.proofs.Pairs.{drop_at}
use Rattle.lotos_warn.specs.Additions.{IsMissingGate, IsMissingUnseen}
use Rattle.lotos_warn.proofs.Additions.{AddsRest, adds_start, adds_next, adds_end}
use Rattle.lotos_warn.proofs.ListWarnings.{missing_split, missing_none}
use Rattle.lotos_warn.proofs.offered_gates.warn_of_unoffered.Goals as goal

pub loop-gate-init : goal.loop-gate-init
loop-gate-init c =
    let by_left = map (λ k. k.now) c.args.by_left.now.keys in
    let by_right = map (λ k. k.now) c.args.by_right.now.keys in
    let old = c.args.warnings.now.items in
    let all = IsMissingGate by_left by_right [] c.args.gates.now in
    subst (λ ks. AddsRest old old (IsMissingGate by_left by_right (map (λ k. k.now) ks) c.args.gates.now) all) (sym c.new-seen.ensures.empty)
    (adds_start old all)

pub loop-gate-preserved : goal.loop-gate-preserved
loop-gate-preserved c =
    let within : c.loop-gate.gate-index < length c.args.gates.now = omega arith in
    let by_left = map (λ k. k.now) c.args.by_left.now.keys in
    let by_right = map (λ k. k.now) c.args.by_right.now.keys in
    let seen = map (λ k. k.now) c.loop-gate.seen.keys in
    let more = map (λ k. k.now) c.warn_if_unseen.new.seen.keys in
    let gate = c.gate-item.result in
    let others = drop (c.loop-gate.gate-index + 1) c.args.gates.now in
    let next = drop_at c.args.gates.now c.loop-gate.gate-index _ gate within c.gate-item.is in
    adds_next c.args.warnings.now.items c.loop-gate.warnings.items c.warn_if_unseen.new.warnings.items
    (IsMissingGate by_left by_right seen (drop c.loop-gate.gate-index c.args.gates.now)) (IsMissingGate by_left by_right [] c.args.gates.now)
    (IsMissingUnseen by_left by_right seen gate) (IsMissingGate by_left by_right more others)
    c.loop-gate.invariant c.in_ok-warn_if_unseen.ensures.warns
    (λ w. subst (λ gs. IsMissingGate by_left by_right seen gs w ↔ (IsMissingUnseen by_left by_right seen gate w ⊎ IsMissingGate by_left by_right more others w))
    (sym next) (missing_split by_left by_right seen more gate others c.in_ok-warn_if_unseen.ensures.sees w))

pub returns : goal.returns
returns c =
    let done : length c.args.gates.now ≤ c.loop-gate.gate-index = omega arith in
    let by_left = map (λ k. k.now) c.args.by_left.now.keys in
    let by_right = map (λ k. k.now) c.args.by_right.now.keys in
    let seen = map (λ k. k.now) c.loop-gate.seen.keys in
    let rest = drop c.loop-gate.gate-index c.args.gates.now in
    adds_end c.args.warnings.now.items c.loop-gate.warnings.items
    (IsMissingGate by_left by_right seen rest) (IsMissingGate by_left by_right [] c.args.gates.now) c.loop-gate.invariant
    (λ w h. missing_none by_left by_right seen w
    (subst (λ gs. IsMissingGate by_left by_right seen gs w) (drop_all c.loop-gate.gate-index c.args.gates.now done) h))
