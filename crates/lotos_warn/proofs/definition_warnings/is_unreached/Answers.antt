use Rattle.std.proofs.Common.{sym, ◌∙◌}
use Rattle.lotos_warn.proofs.NameTests.{in_first_alone, not_in_first, number_found}
use Rattle.lotos_warn.proofs.definition_warnings.is_unreached.Goals as goal

pub returns-then-contains : goal.returns-then-contains
returns-then-contains c =
    in_first_alone c.args.called.now.keys c.args.reached.now.keys c.args.number c.contains-then-contains.result c.contains-then-contains.ensures
    (number_found c.args.number c.args.called.now.keys (sym c.contains.ensures ∙ c.if-contains.true))

pub returns-else-contains : goal.returns-else-contains
returns-else-contains c =
    not_in_first c.args.called.now.keys c.args.reached.now.keys c.args.number c.contains.result c.if-contains.false
    (sym c.contains.ensures ∙ c.if-contains.false)
