use Rattle.std.proofs.Common.{◌≡◌, ◌↔◌}
use Rattle.lotos_check.specs.NameLists.{Name, In, texts}
use Rattle.lotos_warn.proofs.ExchangedSites.{exchanged_tested, exchanged_never, said, denied}
use Rattle.lotos_warn.proofs.exchanged_gates.is_exchanged.Goals as goal

pub returns-then-are_names : goal.returns-then-are_names
returns-then-are_names c =
    let same = texts c.args.gates.now ≡ c.args.names.now in
    exchanged_never (texts c.args.gates.now) c.args.names.now (said same (same → ⊥) c.are_names.result c.are_names.ensures c.if-are_names.true)

pub returns-in_ok-same : goal.returns-in_ok-same
returns-in_ok-same c =
    let same = texts c.args.gates.now ≡ c.args.names.now in
    exchanged_tested (texts c.args.gates.now) c.args.names.now c.in_ok-same.same
    (denied same (same → ⊥) c.are_names.result c.are_names.ensures c.if-are_names.false) c.in_ok-same.ensures
