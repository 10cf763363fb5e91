use Rattle.std.proofs.Common.{◌≡◌, map, sym, ◌∙◌, subst}
use Rattle.lotos_check.specs.NameLists.{In}
use Rattle.lotos_check.proofs.NameTests.{name_found, name_missing}
use Rattle.lotos_warn.proofs.Additions.{adds_as, adds_nothing}
use Rattle.lotos_warn.proofs.gate_names.insert_other.Goals as goal

pub returns-in_ok-insert_text : goal.returns-in_ok-insert_text
returns-in_ok-insert_text c =
    let missing = name_missing (λ k. k.now) c.args.name.now c.args.hidden.now.keys (sym c.contains.ensures ∙ c.if-not-contains.true) in
    adds_as (map (λ k. k.now) c.args.into.now.keys) (map (λ k. k.now) c.insert_text.new.into.keys)
    (λ n. c.args.name.now ≡ n) (λ n. (In n (map (λ k. k.now) c.args.hidden.now.keys) → ⊥) × (c.args.name.now ≡ n))
    (λ n. ((λ e. ((λ i. missing (subst (λ m. In m (map (λ k. k.now) c.args.hidden.now.keys)) (sym e) i)), e)), (λ h. h.1)))
    c.in_ok-insert_text.ensures

pub returns-else-not-contains : goal.returns-else-not-contains
returns-else-not-contains c =
    let found = name_found (λ k. k.now) c.args.name.now c.args.hidden.now.keys (sym c.contains.ensures ∙ c.if-not-contains.false) in
    adds_nothing (map (λ k. k.now) c.args.into.now.keys)
    (λ n. (In n (map (λ k. k.now) c.args.hidden.now.keys) → ⊥) × (c.args.name.now ≡ n))
    (λ n h. h.0 (subst (λ m. In m (map (λ k. k.now) c.args.hidden.now.keys)) h.1 found))
