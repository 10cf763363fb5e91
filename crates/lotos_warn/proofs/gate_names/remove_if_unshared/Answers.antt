use Rattle.std.proofs.Common.{map}
use Rattle.lotos_warn.proofs.SharedNames.{unshared, unshared_second}
use Rattle.lotos_warn.proofs.gate_names.remove_if_unshared.Goals as goal

pub returns-then-not-is_in_both-clause-first : goal.returns-then-not-is_in_both-clause-first
returns-then-not-is_in_both-clause-first c =
    unshared (map (λ k. k.now) c.args.first.now.keys) (map (λ k. k.now) c.remove_name.new.from.keys)
    (map (λ k. k.now) c.args.second.now.keys) c.args.name.now
    c.remove_name.ensures.removes c.if-not-is_in_both.ensures

pub returns-then-not-is_in_both-clause-second : goal.returns-then-not-is_in_both-clause-second
returns-then-not-is_in_both-clause-second c =
    unshared_second (map (λ k. k.now) c.args.second.now.keys) (map (λ k. k.now) c.remove_name-then-not-is_in_both.new.from.keys)
    (map (λ k. k.now) c.args.first.now.keys) c.args.name.now
    c.remove_name-then-not-is_in_both.ensures.removes c.if-not-is_in_both.ensures
