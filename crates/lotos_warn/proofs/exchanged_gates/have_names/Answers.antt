use Rattle.std.proofs.Common.{◌≡◌, ◌<◌, ◌≤◌, length, map, drop, sym, ◌∙◌, ap, subst, arith}
use Rattle.std.proofs.lemmas.List.{drop_all}
use Rattle.lotos_check.specs.NameLists.{In, texts}
use Rattle.lotos_check.proofs.NameTests.{name_found, name_missing}
use Rattle.lotos_check.proofs.Pairs.{drop_at}
use Rattle.lotos_warn.proofs.NameTests.{includes_next, includes_lost, includes_end}
use Rattle.lotos_warn.proofs.exchanged_gates.have_names.Goals as goal

pub loop-gate-preserved : goal.loop-gate-preserved
loop-gate-preserved c =
    let within : c.loop-gate.gate-index < length c.args.gates.now = omega arith in
    let names = map (λ k. k.now) c.args.set.now.keys in
    let there = name_found (λ k. k.now) c.text.result.now c.args.set.now.keys (sym c.contains.ensures ∙ c.if-not-contains.false) in
    includes_next names _ _ (texts c.args.gates.now) c.gate-item.result.name
    (ap texts (drop_at c.args.gates.now c.loop-gate.gate-index _ c.gate-item.result within c.gate-item.is))
    (subst (λ n. In n names) c.text.ensures.bytes there) c.loop-gate.invariant

pub returns-then-not-contains : goal.returns-then-not-contains
returns-then-not-contains c =
    let within : c.loop-gate.gate-index < length c.args.gates.now = omega arith in
    let names = map (λ k. k.now) c.args.set.now.keys in
    let lost = name_missing (λ k. k.now) c.text.result.now c.args.set.now.keys (sym c.contains.ensures ∙ c.if-not-contains.true) in
    includes_lost names _ _ (texts c.args.gates.now) c.gate-item.result.name
    (ap texts (drop_at c.args.gates.now c.loop-gate.gate-index _ c.gate-item.result within c.gate-item.is))
    (subst (λ n. In n names → ⊥) c.text.ensures.bytes lost) c.loop-gate.invariant

pub returns : goal.returns
returns c =
    let done : length c.args.gates.now ≤ c.loop-gate.gate-index = omega arith in
    includes_end (map (λ k. k.now) c.args.set.now.keys) _ (texts c.args.gates.now) (ap texts (drop_all c.loop-gate.gate-index c.args.gates.now done))
    c.loop-gate.invariant
