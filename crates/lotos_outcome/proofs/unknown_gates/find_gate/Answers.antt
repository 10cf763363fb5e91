use Rattle.std.proofs.Common.{◌≡◌, ◌∙◌, [], arith, refl, rules, subst, sym}
use Rattle.lotos_check.specs.NameLists.{In}
use Rattle.lotos_check.proofs.ListIndices.{each_in, in_read}
use Rattle.lotos_outcome.proofs.unknown_gates.find_gate.Goals as goal

pub returns-then-eq : goal.returns-then-eq
returns-then-eq c =
    let at = in_read c.args.gates.now c.loop-gate.gate-index c.gate-item.result c.loop-gate-test.true in
    let same : c.gate-item.result ≡ c.args.name.now = search rules in
    (same, subst (λ n. In n c.args.gates.now) (sym c.gate-item.is ∙ same) at)

pub returns : goal.returns
returns c = λ i.
    each_in (λ n. n ≡ c.args.name.now → ⊥) c.args.gates.now [] (λ k below e. c.loop-gate.invariant k (omega arith) e) c.args.name.now i refl
