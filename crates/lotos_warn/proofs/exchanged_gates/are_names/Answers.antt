use Rattle.std.proofs.Common.{◌≡◌, ◌<◌, ap, length, get_or, refl, arith}
use Rattle.lotos_check.specs.NameLists.{texts}
use Rattle.lotos_check.proofs.Pairs.{drop_at}
use Rattle.lotos_warn.proofs.NameTests.{agrees_next, agrees_lost}
use Rattle.lotos_warn.proofs.ExchangedSites.{names_differ, names_same}
use Rattle.lotos_warn.proofs.exchanged_gates.are_names.Goals as goal

pub returns-then-ne : goal.returns-then-ne
returns-then-ne c =
    let i = c.loop-index.index in
    let within : i < length c.args.gates.now = omega arith in
    let there : i < length c.args.names.now = omega arith in
    agrees_lost _ _ _ _ (texts c.args.gates.now) c.args.names.now (get_or c.args.gates.now i c.index-gates-index.result).name c.index-names-index.result
    (ap texts (drop_at c.args.gates.now i c.index-gates-index.result
    (get_or c.args.gates.now i c.index-gates-index.result) within refl))
    (drop_at c.args.names.now i _ c.index-names-index.result there c.index-names-index.is)
    (names_differ (get_or c.args.gates.now i c.index-gates-index.result).name c.index-names-index.result
    c.ne.result c.ne.ensures c.if-ne.true) c.loop-index.invariant

pub loop-index-preserved : goal.loop-index-preserved
loop-index-preserved c =
    let i = c.loop-index.index in
    let within : i < length c.args.gates.now = omega arith in
    let there : i < length c.args.names.now = omega arith in
    agrees_next _ _ _ _ (texts c.args.gates.now) c.args.names.now (get_or c.args.gates.now i c.index-gates-index.result).name c.index-names-index.result
    (ap texts (drop_at c.args.gates.now i c.index-gates-index.result
    (get_or c.args.gates.now i c.index-gates-index.result) within refl))
    (drop_at c.args.names.now i _ c.index-names-index.result there c.index-names-index.is)
    (names_same (get_or c.args.gates.now i c.index-gates-index.result).name c.index-names-index.result
    c.ne.result c.ne.ensures c.if-ne.false) c.loop-index.invariant
