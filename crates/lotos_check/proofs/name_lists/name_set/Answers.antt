use Rattle.std.proofs.Common.{◌↔◌, subst}
use Rattle.lotos_check.specs.NameLists.{In}
use Rattle.lotos_check.proofs.name_lists.name_set.Goals as goal

pub returns : goal.returns
returns c =
    let set = c.make_set.new.names.items in
    let same = c.make_set.ensures.same in
    record {
      ascends = c.make_set.ensures.ascends;
      same = λ n. subst (λ names. In n set ↔ In n names) c.in_ok-set.ensures (same n);
    }
