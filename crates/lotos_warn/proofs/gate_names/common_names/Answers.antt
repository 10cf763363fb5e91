use Rattle.std.proofs.Common.{map, ap}
use Rattle.lotos_check.specs.NameLists.{In}
use Rattle.lotos_warn.proofs.Additions.{adds_alone}
use Rattle.lotos_warn.proofs.gate_names.common_names.Goals as goal

pub returns : goal.returns
returns c =
    adds_alone (map (λ k. k.now) c.new-common.result.keys) (map (λ k. k.now) c.insert_common.new.into.keys)
    (λ n. In n (map (λ k. k.now) c.args.first.now.keys) × In n (map (λ k. k.now) c.args.second.now.keys))
    (ap (map (λ k. k.now)) c.new-common.ensures.empty) c.in_ok-insert_common.ensures
