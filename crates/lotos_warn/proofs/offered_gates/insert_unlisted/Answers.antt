use Rattle.std.proofs.Common.{map}
use Rattle.std.proofs.lemmas.Result.{on_ok_weaker}
use Rattle.lotos_check.specs.NameLists.{In, texts}
use Rattle.lotos_warn.specs.Additions.{IsVisible}
use Rattle.lotos_warn.proofs.Additions.{adds_as}
use Rattle.lotos_warn.proofs.offered_gates.insert_unlisted.Goals as goal

pub returns : goal.returns
returns c =
    let keeps = c.remove_names.ensures in
    on_ok_weaker c.merge.result
    (λ h. adds_as (map (λ k. k.now) c.args.into.now.keys) (map (λ k. k.now) c.merge.new.into.keys)
    (λ n. In n (map (λ k. k.now) c.remove_names.new.from.keys)) (IsVisible (texts c.args.gates.now) (map (λ k. k.now) c.args.from.keys))
    (λ n. ((λ i. let k = (keeps n).0 i in (k.1, k.0)), (λ v. (keeps n).1 (v.1, v.0)))) h)
    c.merge.ensures
