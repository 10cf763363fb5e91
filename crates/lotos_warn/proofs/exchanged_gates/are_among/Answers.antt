use Rattle.std.proofs.Common.{◌≡◌, ◌<◌, ◌≤◌, length, map, drop, sym, ◌∙◌, subst, arith}
use Rattle.std.proofs.lemmas.List.{drop_all}
use Rattle.lotos_check.specs.NameLists.{In}
use Rattle.lotos_check.proofs.NameTests.{name_found, name_missing}
use Rattle.lotos_check.proofs.Pairs.{drop_at}
use Rattle.lotos_warn.proofs.NameTests.{includes_next, includes_lost, includes_end}
use Rattle.lotos_warn.proofs.exchanged_gates.are_among.Goals as goal

pub loop-name-preserved : goal.loop-name-preserved
loop-name-preserved c =
    let within : c.loop-name.name-index < length c.args.names.now = omega arith in
    let names = map (λ k. k.now) c.args.set.now.keys in
    let there = name_found (λ k. k.now) c.text.result.now c.args.set.now.keys (sym c.contains.ensures ∙ c.if-not-contains.false) in
    includes_next names _ _ c.args.names.now c.name-item.result
    (drop_at c.args.names.now c.loop-name.name-index _ c.name-item.result within c.name-item.is)
    (subst (λ n. In n names) c.text.ensures.bytes there) c.loop-name.invariant

pub returns-then-not-contains : goal.returns-then-not-contains
returns-then-not-contains c =
    let within : c.loop-name.name-index < length c.args.names.now = omega arith in
    let names = map (λ k. k.now) c.args.set.now.keys in
    let lost = name_missing (λ k. k.now) c.text.result.now c.args.set.now.keys (sym c.contains.ensures ∙ c.if-not-contains.true) in
    includes_lost names _ _ c.args.names.now c.name-item.result
    (drop_at c.args.names.now c.loop-name.name-index _ c.name-item.result within c.name-item.is)
    (subst (λ n. In n names → ⊥) c.text.ensures.bytes lost) c.loop-name.invariant

pub returns : goal.returns
returns c =
    let done : length c.args.names.now ≤ c.loop-name.name-index = omega arith in
    includes_end (map (λ k. k.now) c.args.set.now.keys) _ c.args.names.now (drop_all c.loop-name.name-index c.args.names.now done) c.loop-name.invariant
