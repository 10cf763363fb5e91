use Rattle.std.proofs.Common.{◌≡◌, ◌∙◌, rules, subst, sym}
use Rattle.lotos_check.specs.NameLists.{In}
use Rattle.lotos_check.proofs.ListIndices.{in_read}
use Rattle.alloc_retries.proofs.after_calls.is_among.Goals as goal

pub returns-then-eq : goal.returns-then-eq
returns-then-eq c = λ _.
    let at = in_read c.args.gates.now c.loop-gate.gate-index c.gate-item.result c.loop-gate-test.true in
    let same : c.gate-item.result ≡ c.args.name.now = search rules in
    subst (λ n. In n c.args.gates.now) (sym c.gate-item.is ∙ same) at
