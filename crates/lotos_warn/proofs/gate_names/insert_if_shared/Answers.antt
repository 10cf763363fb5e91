use Rattle.std.proofs.Common.{◌≡◌, map, sym, ◌∙◌, subst}
use Rattle.lotos_check.specs.NameLists.{In}
use Rattle.lotos_check.proofs.NameTests.{name_found, name_missing}
use Rattle.lotos_warn.proofs.Additions.{adds_as, adds_nothing}
use Rattle.lotos_warn.proofs.gate_names.insert_if_shared.Goals as goal

pub returns-in_ok-insert_text : goal.returns-in_ok-insert_text
returns-in_ok-insert_text c =
    let others = map (λ k. k.now) c.args.others.now.keys in
    let found = name_found (λ k. k.now) c.args.name.now c.args.others.now.keys (sym c.contains.ensures ∙ c.if-contains.true) in
    adds_as (map (λ k. k.now) c.args.into.now.keys) (map (λ k. k.now) c.insert_text.new.into.keys)
    (λ n. c.args.name.now ≡ n) (λ n. In n others × (c.args.name.now ≡ n))
    (λ n. ((λ e. (subst (λ m. In m others) e found, e)), (λ h. h.1)))
    c.in_ok-insert_text.ensures

pub returns-else-contains : goal.returns-else-contains
returns-else-contains c =
    let others = map (λ k. k.now) c.args.others.now.keys in
    let missing = name_missing (λ k. k.now) c.args.name.now c.args.others.now.keys (sym c.contains.ensures ∙ c.if-contains.false) in
    adds_nothing (map (λ k. k.now) c.args.into.now.keys) (λ n. In n others × (c.args.name.now ≡ n))
    (λ n h. missing (subst (λ m. In m others) (sym h.1) h.0))
