use Rattle.std.proofs.Common.{◌∙◌, refl, sym}
use Rattle.lotos_origins.proofs.Likenesses.{compositions_alike, one_number}
use Rattle.lotos_origins.proofs.alike.compare_cores.Goals as goal

pub returns-then-number : goal.returns-then-number
returns-then-number c = λ system.
    one_number system c.args.nodes.now.terms c.args.first c.args.second (sym c.number.ensures ∙ c.if-number.true ∙ c.number-2.ensures)

pub returns-then-is_same_operator : goal.returns-then-is_same_operator
returns-then-is_same_operator c = λ system.
    compositions_alike system c.args.nodes.now c.args.first c.args.second c.in-Some.one c.in-Some-composition_of.other c.requires.first c.requires.second
    c.in-Some.ensures c.in-Some-composition_of.ensures (c.if-is_same_operator.ensures refl)
