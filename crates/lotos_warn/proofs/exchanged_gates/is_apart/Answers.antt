use Rattle.std.proofs.Common.{◌≡◌, ◌-◌, suc, arith}
use Rattle.lotos_warn.proofs.ExchangedSites.{apart_tested}
use Rattle.lotos_warn.proofs.exchanged_gates.is_apart.Goals as goal

pub returns-else-caller-eq0 : goal.returns-else-caller-eq0
returns-else-caller-eq0 c = apart_tested (c.args.caller - 1) c.args.caller c.args.inside.now.keys c.contains.result (omega arith) c.contains.ensures
