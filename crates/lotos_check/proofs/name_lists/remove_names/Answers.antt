use Rattle.std.proofs.Common.{rules}
use Rattle.lotos_check.proofs.HiddenGates.{retain_is_without}
use Rattle.lotos_check.proofs.name_lists.remove_names.Goals as goal

pub returns : goal.returns
returns c = retain_is_without _ c.args.removed.now _ (λ n b g k. search rules) c.args.names.now.items c.retain.new.self.items c.retain.ensures.filtered
