use Rattle.std.proofs.Common.{map}
use Rattle.lotos_warn.proofs.ListWarnings.{missing_sides}
use Rattle.lotos_warn.proofs.offered_gates.warn_if_unseen.Goals as goal

pub returns-in_ok-warn_if_unoffered-2-clause-warns : goal.returns-in_ok-warn_if_unoffered-2-clause-warns
returns-in_ok-warn_if_unoffered-2-clause-warns c =
    missing_sides (map (λ k. k.now) c.args.by_left.now.keys) (map (λ k. k.now) c.args.by_right.now.keys) (map (λ k. k.now) c.args.seen.now.keys) c.args.gate.now
    c.args.warnings.now.items c.warn_if_unoffered.new.warnings.items c.warn_if_unoffered-then-branch.new.warnings.items
    (rw c.if-branch.true at c.in_ok-insert_new.ensures.new)
    c.in_ok-warn_if_unoffered.ensures c.in_ok-warn_if_unoffered-2.ensures
