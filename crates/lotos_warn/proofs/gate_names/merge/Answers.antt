use Rattle.std.proofs.Common.{map, ap, ◌∙◌, subst}
use Rattle.std.proofs.lemmas.Result.{on_ok_weaker}
use Rattle.lotos_check.specs.NameLists.{In}
use Rattle.lotos_warn.specs.Additions.{Adds}
use Rattle.lotos_warn.proofs.Additions.{adds_other}
use Rattle.lotos_warn.proofs.gate_names.merge.Goals as goal

pub returns-then-len : goal.returns-then-len
returns-then-len c =
    let first = map (λ k. k.now) c.args.into.now.keys in
    let second = map (λ k. k.now) c.args.from.keys in
    let new = map (λ k. k.now) c.insert_all.new.into.keys in
    let fewer = c.as_slice.ensures.keys ∙ ap (λ s. s.keys) c.replace-fewer.ensures.value in
    on_ok_weaker c.insert_all.result
    (λ h. adds_other first second new
    (subst (λ s. Adds (map (λ k. k.now) s.keys) new (λ n. In n first)) c.replace-fewer.ensures.after
    (subst (λ ks. Adds (map (λ k. k.now) c.replace-fewer.new.dest.keys) new (λ n. In n (map (λ k. k.now) ks))) fewer h)))
    c.insert_all.ensures

pub returns-else-len : goal.returns-else-len
returns-else-len c =
    let new = map (λ k. k.now) c.insert_all-else-len.new.into.keys in
    on_ok_weaker c.insert_all-else-len.result
    (λ h. subst (λ ks. Adds (map (λ k. k.now) c.args.into.now.keys) new (λ n. In n (map (λ k. k.now) ks))) c.as_slice-else-len.ensures.keys h)
    c.insert_all-else-len.ensures
