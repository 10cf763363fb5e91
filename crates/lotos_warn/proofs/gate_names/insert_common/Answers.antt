use Rattle.std.proofs.Common.{map, subst}
use Rattle.std.proofs.lemmas.Result.{on_ok_weaker}
use Rattle.lotos_check.specs.NameLists.{In}
use Rattle.lotos_warn.specs.Additions.{Adds}
use Rattle.lotos_warn.proofs.Additions.{adds_as}
use Rattle.lotos_warn.proofs.gate_names.insert_common.Goals as goal

pub returns-then-len : goal.returns-then-len
returns-then-len c =
    let into = map (λ k. k.now) c.args.into.now.keys in
    let new = map (λ k. k.now) c.insert_shared.new.into.keys in
    let first = map (λ k. k.now) c.args.first.now.keys in
    let second = map (λ k. k.now) c.args.second.now.keys in
    on_ok_weaker c.insert_shared.result
    (λ h. adds_as into new (λ n. In n second × In n first) (λ n. In n first × In n second) (λ n. ((λ i. (i.1, i.0)), (λ i. (i.1, i.0))))
    (subst (λ ks. Adds into new (λ n. In n second × In n (map (λ k. k.now) ks))) c.as_slice.ensures.keys h))
    c.insert_shared.ensures

pub returns-else-len : goal.returns-else-len
returns-else-len c =
    let into = map (λ k. k.now) c.args.into.now.keys in
    let new = map (λ k. k.now) c.insert_shared-else-len.new.into.keys in
    let first = map (λ k. k.now) c.args.first.now.keys in
    on_ok_weaker c.insert_shared-else-len.result
    (λ h. subst (λ ks. Adds into new (λ n. In n first × In n (map (λ k. k.now) ks))) c.as_slice-else-len.ensures.keys h)
    c.insert_shared-else-len.ensures
