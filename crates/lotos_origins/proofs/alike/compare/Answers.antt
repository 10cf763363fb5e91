use Rattle.std.proofs.Common.{◌∙◌, sym}
use Rattle.lotos_origins.proofs.Likenesses.{one_number}
use Rattle.lotos_origins.proofs.alike.compare.Goals as goal

pub returns-then-number : goal.returns-then-number
returns-then-number c =
    one_number c.args.table.now.processes c.args.table.now.terms c.args.first c.args.second (sym c.number.ensures ∙ c.if-number.true ∙ c.number-2.ensures)
