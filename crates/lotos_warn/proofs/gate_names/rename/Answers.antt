use Rattle.std.proofs.Common.{◌≡◌, map, sym, ◌∙◌, subst}
use Rattle.lotos_check.specs.NameLists.{In}
use Rattle.lotos_check.proofs.NameTests.{name_found, name_missing}
use Rattle.lotos_warn.proofs.Additions.{adds_as, adds_nothing}
use Rattle.lotos_warn.proofs.gate_names.rename.Goals as goal

pub returns-in_ok-insert_name-clause-adds : goal.returns-in_ok-insert_name-clause-adds
returns-in_ok-insert_name-clause-adds c =
    let names = map (λ k. k.now) c.args.names.now.keys in
    let seen = map (λ k. k.now) c.args.seen.now.keys in
    let found = name_found (λ k. k.now) c.text.result.now c.args.names.now.keys (sym c.contains.ensures ∙ c.if-contains.true) in
    let among = subst (λ n. In n names) c.text.ensures.bytes found in
    adds_as (map (λ k. k.now) c.args.into.now.keys) (map (λ k. k.now) c.insert_name.new.into.keys) (λ n. c.args.actual.now ≡ n)
    (λ n. (In c.args.formal.now seen → ⊥) × In c.args.formal.now names × (c.args.actual.now ≡ n))
    (λ n. ((λ e. ((rw c.if-branch.true at c.in_ok-insert_new.ensures.new), among, e)), (λ h. h.2)))
    c.in_ok-insert_name.ensures

pub returns-else-contains-clause-adds : goal.returns-else-contains-clause-adds
returns-else-contains-clause-adds c =
    let names = map (λ k. k.now) c.args.names.now.keys in
    let seen = map (λ k. k.now) c.args.seen.now.keys in
    let none = name_missing (λ k. k.now) c.text.result.now c.args.names.now.keys (sym c.contains.ensures ∙ c.if-contains.false) in
    let missing = subst (λ n. In n names → ⊥) c.text.ensures.bytes none in
    adds_nothing (map (λ k. k.now) c.args.into.now.keys)
    (λ n. (In c.args.formal.now seen → ⊥) × In c.args.formal.now names × (c.args.actual.now ≡ n)) (λ n h. missing h.1)
