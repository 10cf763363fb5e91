use Rattle.std.proofs.Common.{map}
use Rattle.std.proofs.lemmas.Result.{on_ok_weaker}
use Rattle.lotos_check.specs.NameLists.{In}
use Rattle.lotos_warn.proofs.Additions.{adds_both}
use Rattle.lotos_warn.proofs.gate_names.insert_both.Goals as goal

pub returns : goal.returns
returns c =
    on_ok_weaker c.merge-2.result
    (λ h. adds_both (map (λ k. k.now) c.args.into.now.keys) (map (λ k. k.now) c.merge.new.into.keys) (map (λ k. k.now) c.merge-2.new.into.keys)
    (λ n. In n (map (λ k. k.now) c.args.first.keys)) (λ n. In n (map (λ k. k.now) c.args.second.keys)) c.in_ok-merge.ensures h)
    c.merge-2.ensures
