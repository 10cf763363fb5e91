use Rattle.std.proofs.Common.{map}
use Rattle.lotos_warn.proofs.SharedNames.{joint}
use Rattle.lotos_warn.proofs.gate_names.joint_names.Goals as goal

pub returns : goal.returns
returns c =
    joint c.args.list.now (map (λ k. k.now) c.args.first.keys) (map (λ k. k.now) c.args.second.keys)
    (map (λ k. k.now) c.remove_unshared.new.first.keys) (map (λ k. k.now) c.remove_unshared.new.second.keys) (map (λ k. k.now) c.merge.new.into.keys)
    c.remove_unshared.ensures.first c.remove_unshared.ensures.second c.in_ok-merge.ensures
