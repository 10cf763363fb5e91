use Rattle.std.proofs.Common.{sym, ◌∙◌}
use Rattle.lotos_check.specs.FlatOf.{flat_of}
use Rattle.lotos_warn.proofs.ExitingNumbers.{exiting_added}
use Rattle.lotos_warn.proofs.termination.add_if_exiting.Goals as goal

pub returns-in_ok-insert : goal.returns-in_ok-insert
returns-in_ok-insert c =
    exiting_added c.args.number (flat_of c.args.body.now) c.args.exiting.now.keys c.insert.new.self.keys c.in_ok-insert.ensures.keys
    (sym c.may_exit.ensures ∙ c.if-may_exit.true)
