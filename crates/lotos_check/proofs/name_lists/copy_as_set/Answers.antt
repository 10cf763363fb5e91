use Rattle.std.proofs.Common.{◌∙◌, ◌↔◌, arith, subst}
use Rattle.std.proofs.lemmas.List.{take_all}
use Rattle.lotos_check.specs.NameLists.{In}
use Rattle.lotos_check.proofs.name_lists.copy_as_set.Goals as goal

pub returns-clause-same : goal.returns-clause-same
returns-clause-same c =
    let all = c.loop-name.invariant ∙ take_all c.loop-name.name-index c.args.names.now (omega (arith, c.loop-name-test.false)) in
    λ n. subst (λ names. In n c.make_set.new.names.items ↔ In n names) all (c.make_set.ensures.same n)
