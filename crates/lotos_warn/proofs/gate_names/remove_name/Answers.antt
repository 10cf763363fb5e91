use Rattle.std.proofs.Common.{subst}
use Rattle.lotos_warn.specs.Additions.{LacksName}
use Rattle.lotos_warn.proofs.SharedNames.{removed_name, there_by_test}
use Rattle.lotos_warn.proofs.gate_names.remove_name.Goals as goal

pub returns-clause-removes : goal.returns-clause-removes
returns-clause-removes c =
    subst (λ n. LacksName (λ k. k.now) c.args.from.now.keys c.swap_remove.new.self.keys n) c.text.ensures.bytes
    (removed_name c.args.from.now.keys c.swap_remove.new.self.keys c.text.result.now c.swap_remove.ensures.updates.0)

pub returns-clause-there : goal.returns-clause-there
returns-clause-there c =
    there_by_test c.args.from.now.keys c.text.result.now c.args.name.now c.swap_remove.result c.text.ensures.bytes c.swap_remove.ensures.found
