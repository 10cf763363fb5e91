use Rattle.std.proofs.lemmas.Cmp.{eq_by_cmp_equiv}
use Rattle.lotos_warn.specs.WarningOrder.{warning_total}
use Rattle.lotos_warn.proofs.SortedWarnings.{same_left, in_order}
use Rattle.lotos_warn.proofs.specification_warnings.warnings.Goals as goal

pub returns-clause-exact : goal.returns-clause-exact
returns-clause-exact c = λ w.
    let same = same_left warning_total (eq_by_cmp_equiv warning_total) c.in_ok-warnings.warnings.items c.sort_unstable.new.self.items c.dedup.new.self.items
    c.sort_unstable.ensures.permutation c.dedup.ensures.filtered w in
    let all = c.in_ok-warnings.ensures w in
    ((λ i. all.0 (same.0 i)), (λ h. same.1 (all.1 h)))

pub returns-clause-ascending : goal.returns-clause-ascending
returns-clause-ascending c =
    in_order warning_total (eq_by_cmp_equiv warning_total) c.in_ok-warnings.warnings.items c.sort_unstable.new.self.items c.dedup.new.self.items
    c.sort_unstable.ensures.permutation c.dedup.ensures.filtered c.sort_unstable.ensures.sorted
