use Rattle.std.proofs.Common.{◌≡◌, ◌∙◌, Some, [], ap, arith, get_or, refl, rules}
use Rattle.std.proofs.lemmas.Option.{slice_get-get_or}
use Rattle.lotos_check.proofs.ListIndices.{each_in}
use Rattle.lotos_listing.proofs.named_labels.find_gate.Goals as goal

pub returns-then-eq : goal.returns-then-eq
returns-then-eq c =
    let same : get_or c.args.gates.now c.loop-number.number c.index-gates-number.result ≡ c.args.name.now = search rules in
    rw c.of_number.ensures (slice_get-get_or c.args.gates.now c.loop-number.number c.index-gates-number.result c.loop-number-test.true ∙ ap Some same)

pub returns : goal.returns
returns c = λ i.
    each_in (λ n. n ≡ c.args.name.now → ⊥) c.args.gates.now [] (λ k below e. c.loop-number.invariant k (omega arith) e) c.args.name.now i refl
