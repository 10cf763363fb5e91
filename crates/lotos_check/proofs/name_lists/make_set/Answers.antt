use Rattle.lotos_check.proofs.NameSets.{sorted_names}
use Rattle.lotos_check.proofs.name_lists.make_set.Goals as goal

pub returns : goal.returns
returns c =
    let set = sorted_names c.args.names.now.items c.sort_unstable.new.self.items c.dedup.new.self.items
    c.sort_unstable.ensures.permutation c.sort_unstable.ensures.sorted c.dedup.ensures.filtered in
    record { ascends = set.0; same = set.1 }
