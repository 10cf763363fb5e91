use Rattle.std.proofs.Common.{rules}
use Rattle.std.proofs.lemmas.List.Sorted.{IsNonDecreasingBy-from_sort_by_key}
use Rattle.lotos_check.specs.CheckedView.{ranks_of}
use Rattle.lotos_warn.proofs.RankedLabels.{ranked_permuted}
use Rattle.lotos_warn.proofs.process_labels.processes_by_rank.Goals as goal

pub returns-clause-all : goal.returns-clause-all
returns-clause-all c =
    ranked_permuted (ranks_of c.args.system.now) c.in_ok-list.list.items c.sort_unstable_by_key.new.self.items c.sort_unstable_by_key.ensures.permutation
    c.in_ok-list.ensures

pub returns-clause-ordered : goal.returns-clause-ordered
returns-clause-ordered c = IsNonDecreasingBy-from_sort_by_key (λ p. p.rank) _ c.sort_unstable_by_key.ensures.sorted (λ a r q k. search rules)
