use Rattle.lotos_check.specs.CheckedView.{system_of, ranks_of}
use Rattle.lotos_check.proofs.CheckedInvariants.{rank_read}
use Rattle.lotos_check.proofs.checked.Checked.rank.Goals as goal

pub returns-clause-entry : goal.returns-clause-entry
returns-clause-entry c = rank_read (system_of c.args.self.now) (ranks_of c.args.self.now) _ _ c.args.self.now.kept c.requires c.index.ensures
