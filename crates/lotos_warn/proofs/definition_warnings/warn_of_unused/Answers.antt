use Rattle.std.proofs.Common.{◌<◌, ◌≤◌, [], ◌∷◌, length, map, arith}
use Rattle.std.proofs.lemmas.List.{drop_all}
use Rattle.lotos_check.proofs.Pairs.{drop_at}
use Rattle.lotos_warn.specs.Additions.{IsUnusedAmong}
use Rattle.lotos_warn.proofs.Additions.{loop_next, loop_end}
use Rattle.lotos_warn.proofs.DefinitionWarnings.{unused_split, unused_none}
use Rattle.lotos_warn.proofs.definition_warnings.warn_of_unused.Goals as goal

pub loop-gate-preserved : goal.loop-gate-preserved
loop-gate-preserved c =
    let within : c.loop-gate.gate-index < length c.args.formals.now = omega arith in
    let used = map (λ k. k.now) c.args.used.now.keys in
    let name = c.args.owner.now in
    loop_next (IsUnusedAmong used name) (λ g. IsUnusedAmong used name (g ∷ [])) (unused_split used name) (unused_none used name)
    c.args.warnings.now.items c.loop-gate.warnings.items c.warn_if_unused.new.warnings.items
    (IsUnusedAmong used name c.args.formals.now) _ _ c.gate-item.result
    (drop_at c.args.formals.now c.loop-gate.gate-index _ c.gate-item.result within c.gate-item.is)
    c.loop-gate.invariant c.in_ok-warn_if_unused.ensures

pub returns : goal.returns
returns c =
    let done : length c.args.formals.now ≤ c.loop-gate.gate-index = omega arith in
    let used = map (λ k. k.now) c.args.used.now.keys in
    let name = c.args.owner.now in
    loop_end (IsUnusedAmong used name) (λ g. IsUnusedAmong used name (g ∷ [])) (unused_split used name) (unused_none used name)
    c.args.warnings.now.items c.loop-gate.warnings.items
    (IsUnusedAmong used name c.args.formals.now) _ (drop_all c.loop-gate.gate-index c.args.formals.now done) c.loop-gate.invariant
