use Rattle.std.proofs.Common.{◌≡◌, ◌∙◌, Some, ap, length, refl, subst, sym, slice_get}
use Rattle.lotos_check.specs.NameLists.{In}
use Rattle.lotos_suite.proofs.suite.with_label.Goals as goal

pub labels_by-requires : goal.labels_by-requires
labels_by-requires c = λ n i. c.requires n (subst (In n) c.as_slice.ensures.value i)

pub returns : goal.returns
returns c = record {
  counted = c.in_ok-list.ensures.counted ∙ ap length c.as_slice.ensures.value;
  each = λ k n l at there. c.in_ok-list.ensures.each k n l (subst (λ xs. slice_get xs k ≡ Some n) (sym c.as_slice.ensures.value) at) there;
  refused = refl;
}
