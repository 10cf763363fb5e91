-- Names after sorting and removing duplicates.
use Rattle.std.proofs.Common.{◌≡◌, ◌↔◌, List, [], ◌∷◌, sym, subst, true}
use Rattle.std.specs.Ordering.{nat_cmp}
use Rattle.std.specs.Cmp.Lexicographic.{slice_cmp, nat_list_cmp_total, nat_list_eq_equiv, texts_ties}
use Rattle.std.specs.Str.{bytes_eq}
use Rattle.std.specs.List.{dedup}
use Rattle.std.specs.List.Retain.{IsFiltered, DiffersFromLast}
use Rattle.std.specs.List.Sorted.{IsPermutation, IsSorted, IsStrictlySortedBy}
use Rattle.std.proofs.lemmas.List.Filters.{dedup_is}
use Rattle.std.proofs.lemmas.List.Kept.{Contains-dedup, Contains-from_dedup, IsStrictlySortedBy-dedup}
use Rattle.std.proofs.lemmas.List.Sorted.{Contains-permutation, IsPermutation-sym}
use Rattle.std.proofs.lemmas.Slice.Eq.{bytes_eq-Decides}
use Rattle.lotos_check.specs.NameLists.{Name, In, IsAscendingNames, none, one, more}
use Rattle.lotos_check.proofs.ListIndices.{contains_in, in_contains}
use Rattle.lotos_check.proofs.NameOrder.{below_from_less}

-- names each of which is less than those after it ascend
pub ascends_from_sorted : (names : List Name) → IsStrictlySortedBy (slice_cmp nat_cmp) names → IsAscendingNames names
unfolding IsStrictlySortedBy
ascends_from_sorted [] sorted = none
ascends_from_sorted (x ∷ []) sorted = one
ascends_from_sorted (x ∷ y ∷ ys) sorted = more (below_from_less x y sorted.0.0) (ascends_from_sorted (y ∷ ys) sorted.1)

-- sorted names without their duplicates ascend, and are the names from before
pub sorted_names : (old sorted new : List Name) → IsPermutation old sorted → IsSorted (slice_cmp nat_cmp) sorted →
    IsFiltered (DiffersFromLast bytes_eq) [] sorted new → IsAscendingNames new × ((n : Name) → In n new ↔ In n old)
sorted_names old sorted new moved orders filtered =
    let kept = dedup_is bytes_eq sorted new filtered in
    let equal : (x y : Name) → bytes_eq x y ≡ true → x ≡ y = λ x y. (bytes_eq-Decides x y).0 in (
      ascends_from_sorted new (subst (IsStrictlySortedBy (slice_cmp nat_cmp)) (sym kept)
          (IsStrictlySortedBy-dedup nat_list_cmp_total texts_ties sorted orders)),
      λ n. (
        (λ i. contains_in old n (Contains-permutation sorted old n (IsPermutation-sym old sorted moved)
            (Contains-from_dedup bytes_eq sorted n (in_contains (dedup bytes_eq sorted) n (subst (In n) kept i))))),
        (λ i. subst (In n) (sym kept) (contains_in (dedup bytes_eq sorted) n
            (Contains-dedup nat_list_eq_equiv equal sorted n (Contains-permutation old sorted n moved (in_contains old n i))))),
      ),
    )
