-- Warnings after sorting and removing repeats.
use Rattle.std.proofs.Common.{◌≡◌, ◌↔◌, ℕ, ◌<◌, List, [], refl, sym, ◌∙◌, ap, subst, true, arith}
use Rattle.std.specs.Ordering.{nat_cmp, eq_by_cmp, is_eq, ordering_then}
use Rattle.std.specs.declared.cmp.Ordering.{Ordering}
use Rattle.std.specs.declared.cmp.Ordering.TheVariants.{Less, Equal, Greater}
use Rattle.std.specs.Cmp.{ranked, IsTotalOrder, IsEquivalence}
use Rattle.std.specs.Cmp.Lexicographic.{slice_cmp}
use Rattle.std.specs.List.{dedup}
use Rattle.std.specs.List.Retain.{IsFiltered, DiffersFromLast}
use Rattle.std.specs.List.Sorted.{IsPermutation, IsSorted, IsStrictlySortedBy}
use Rattle.std.proofs.lemmas.List.Filters.{dedup_is}
use Rattle.std.proofs.lemmas.List.Kept.{Contains-dedup, Contains-from_dedup, IsStrictlySortedBy-dedup}
use Rattle.std.proofs.lemmas.List.Sorted.{Contains-permutation, IsPermutation-sym}
use Rattle.lotos_text.specs.declared.ast.Placed.{Placed}
use Rattle.lotos_check.specs.NameLists.{Name, In}
use Rattle.lotos_check.proofs.ListIndices.{contains_in, in_contains}
use Rattle.lotos_check.proofs.NameOrder.{same_from_equal}
use Rattle.lotos_warn.specs.declared.warning.Side.{Side}
use Rattle.lotos_warn.specs.declared.warning.Side.TheVariants.{Left, Right}
use Rattle.lotos_warn.specs.declared.warning.Warning.{Warning}
use Rattle.lotos_warn.specs.declared.warning.Warning.TheVariants.{UncalledProcess, UnreachedProcess, NeverExits, DeadStart, UnusedGate, UnofferedGate, UnusedHidden, UnsynchronizedHidden, ExchangedGates}
use Rattle.lotos_warn.specs.WarningOrder.{warning_cmp, offset_of, rank_of, side_rank, subject_of, context_of}

-- the parts of an order one after the other are equal where the whole is
first_equal : (r s : Ordering) → ordering_then r s ≡ Equal → r ≡ Equal
first_equal Less s e = cc
first_equal Equal s e = refl
first_equal Greater s e = cc

-- the second of two orderings is `Equal` if the two one after the other are
second_equal : (r s : Ordering) → ordering_then r s ≡ Equal → s ≡ Equal
second_equal Less s e = cc
second_equal Equal s e = e
second_equal Greater s e = cc

-- numbers that compare as equal are
equal_numbers : (a b : ℕ) → nat_cmp a b ≡ Equal → a ≡ b
equal_numbers a b e = ranked a b Equal (sym e)

-- an ordering is `Equal` if `is_eq` is true of it
is_equal : (r : Ordering) → is_eq r ≡ true → r ≡ Equal
is_equal Less e = cc
is_equal Equal e = refl
is_equal Greater e = cc

abbrev the_placed : Name → ℕ → Placed
the_placed n a = record { name = n; at = a }

-- names are the same if their offsets and their texts are
placed_same : (p q : Placed) → p.at ≡ q.at → p.name ≡ q.name → p ≡ q
placed_same p q e f =
    let named : p ≡ record { name = q.name; at = p.at } = ap (λ (n : Name). the_placed n p.at) f in
    let there : record { name = q.name; at = p.at } ≡ q = ap (λ (a : ℕ). the_placed q.name a) e in
    named ∙ there

-- sides with the same rank are the same
side_same : (s r : Side) → side_rank s ≡ side_rank r → s ≡ r
side_same Left Left e = refl
side_same Left Right e = absurd (omega arith)
side_same Right Left e = absurd (omega arith)
side_same Right Right e = refl

-- no side has a rank below 5
not_side : (s : Side) (n : ℕ) → n < 5 → n ≡ side_rank s → ⊥
not_side Left n h e = omega arith
not_side Right n h e = omega arith

-- no side has a rank above 6
not_above : (s : Side) (n : ℕ) → 6 < n → n ≡ side_rank s → ⊥
not_above Left n h e = omega arith
not_above Right n h e = omega arith

-- a warning is known by its offset, its rank and its names
same_warning : (v w : Warning) → offset_of v ≡ offset_of w → rank_of v ≡ rank_of w → subject_of v ≡ subject_of w → context_of v ≡ context_of w → v ≡ w
same_warning (UncalledProcess p) (UncalledProcess q) a r s c = ap UncalledProcess (placed_same p q a s)
same_warning (UncalledProcess p) (UnreachedProcess q) a r s c = absurd (omega arith)
same_warning (UncalledProcess p) (NeverExits q) a r s c = absurd (omega arith)
same_warning (UncalledProcess p) (DeadStart q) a r s c = absurd (omega arith)
same_warning (UncalledProcess p) (UnusedGate h e) a r s c = absurd (omega arith)
same_warning (UncalledProcess p) (UnofferedGate h u) a r s c = absurd (not_side u 0 (omega arith) r)
same_warning (UncalledProcess p) (UnusedHidden h) a r s c = absurd (omega arith)
same_warning (UncalledProcess p) (UnsynchronizedHidden h) a r s c = absurd (omega arith)
same_warning (UncalledProcess p) (ExchangedGates q o) a r s c = absurd (omega arith)
same_warning (UnreachedProcess p) (UncalledProcess q) a r s c = absurd (omega arith)
same_warning (UnreachedProcess p) (UnreachedProcess q) a r s c = ap UnreachedProcess (placed_same p q a s)
same_warning (UnreachedProcess p) (NeverExits q) a r s c = absurd (omega arith)
same_warning (UnreachedProcess p) (DeadStart q) a r s c = absurd (omega arith)
same_warning (UnreachedProcess p) (UnusedGate h e) a r s c = absurd (omega arith)
same_warning (UnreachedProcess p) (UnofferedGate h u) a r s c = absurd (not_side u 1 (omega arith) r)
same_warning (UnreachedProcess p) (UnusedHidden h) a r s c = absurd (omega arith)
same_warning (UnreachedProcess p) (UnsynchronizedHidden h) a r s c = absurd (omega arith)
same_warning (UnreachedProcess p) (ExchangedGates q o) a r s c = absurd (omega arith)
same_warning (NeverExits p) (UncalledProcess q) a r s c = absurd (omega arith)
same_warning (NeverExits p) (UnreachedProcess q) a r s c = absurd (omega arith)
same_warning (NeverExits p) (NeverExits q) a r s c = ap NeverExits (placed_same p q a s)
same_warning (NeverExits p) (DeadStart q) a r s c = absurd (omega arith)
same_warning (NeverExits p) (UnusedGate h e) a r s c = absurd (omega arith)
same_warning (NeverExits p) (UnofferedGate h u) a r s c = absurd (not_side u 2 (omega arith) r)
same_warning (NeverExits p) (UnusedHidden h) a r s c = absurd (omega arith)
same_warning (NeverExits p) (UnsynchronizedHidden h) a r s c = absurd (omega arith)
same_warning (NeverExits p) (ExchangedGates q o) a r s c = absurd (omega arith)
same_warning (DeadStart p) (UncalledProcess q) a r s c = absurd (omega arith)
same_warning (DeadStart p) (UnreachedProcess q) a r s c = absurd (omega arith)
same_warning (DeadStart p) (NeverExits q) a r s c = absurd (omega arith)
same_warning (DeadStart p) (DeadStart q) a r s c = ap DeadStart (placed_same p q a s)
same_warning (DeadStart p) (UnusedGate h e) a r s c = absurd (omega arith)
same_warning (DeadStart p) (UnofferedGate h u) a r s c = absurd (not_side u 3 (omega arith) r)
same_warning (DeadStart p) (UnusedHidden h) a r s c = absurd (omega arith)
same_warning (DeadStart p) (UnsynchronizedHidden h) a r s c = absurd (omega arith)
same_warning (DeadStart p) (ExchangedGates q o) a r s c = absurd (omega arith)
same_warning (UnusedGate g d) (UncalledProcess q) a r s c = absurd (omega arith)
same_warning (UnusedGate g d) (UnreachedProcess q) a r s c = absurd (omega arith)
same_warning (UnusedGate g d) (NeverExits q) a r s c = absurd (omega arith)
same_warning (UnusedGate g d) (DeadStart q) a r s c = absurd (omega arith)
same_warning (UnusedGate g d) (UnusedGate h e) a r s c = let same = placed_same g h a s in cc
same_warning (UnusedGate g d) (UnofferedGate h u) a r s c = absurd (not_side u 4 (omega arith) r)
same_warning (UnusedGate g d) (UnusedHidden h) a r s c = absurd (omega arith)
same_warning (UnusedGate g d) (UnsynchronizedHidden h) a r s c = absurd (omega arith)
same_warning (UnusedGate g d) (ExchangedGates q o) a r s c = absurd (omega arith)
same_warning (UnofferedGate g t) (UncalledProcess q) a r s c = absurd (not_side t 0 (omega arith) (sym r))
same_warning (UnofferedGate g t) (UnreachedProcess q) a r s c = absurd (not_side t 1 (omega arith) (sym r))
same_warning (UnofferedGate g t) (NeverExits q) a r s c = absurd (not_side t 2 (omega arith) (sym r))
same_warning (UnofferedGate g t) (DeadStart q) a r s c = absurd (not_side t 3 (omega arith) (sym r))
same_warning (UnofferedGate g t) (UnusedGate h e) a r s c = absurd (not_side t 4 (omega arith) (sym r))
same_warning (UnofferedGate g t) (UnofferedGate h u) a r s c = let same = placed_same g h a s in let there = side_same t u r in cc
same_warning (UnofferedGate g t) (UnusedHidden h) a r s c = absurd (not_above t 7 (omega arith) (sym r))
same_warning (UnofferedGate g t) (UnsynchronizedHidden h) a r s c = absurd (not_above t 8 (omega arith) (sym r))
same_warning (UnofferedGate g t) (ExchangedGates q o) a r s c = absurd (not_above t 9 (omega arith) (sym r))
same_warning (UnusedHidden g) (UncalledProcess q) a r s c = absurd (omega arith)
same_warning (UnusedHidden g) (UnreachedProcess q) a r s c = absurd (omega arith)
same_warning (UnusedHidden g) (NeverExits q) a r s c = absurd (omega arith)
same_warning (UnusedHidden g) (DeadStart q) a r s c = absurd (omega arith)
same_warning (UnusedHidden g) (UnusedGate h e) a r s c = absurd (omega arith)
same_warning (UnusedHidden g) (UnofferedGate h u) a r s c = absurd (not_above u 7 (omega arith) r)
same_warning (UnusedHidden g) (UnusedHidden h) a r s c = ap UnusedHidden (placed_same g h a s)
same_warning (UnusedHidden g) (UnsynchronizedHidden h) a r s c = absurd (omega arith)
same_warning (UnusedHidden g) (ExchangedGates q o) a r s c = absurd (omega arith)
same_warning (UnsynchronizedHidden g) (UncalledProcess q) a r s c = absurd (omega arith)
same_warning (UnsynchronizedHidden g) (UnreachedProcess q) a r s c = absurd (omega arith)
same_warning (UnsynchronizedHidden g) (NeverExits q) a r s c = absurd (omega arith)
same_warning (UnsynchronizedHidden g) (DeadStart q) a r s c = absurd (omega arith)
same_warning (UnsynchronizedHidden g) (UnusedGate h e) a r s c = absurd (omega arith)
same_warning (UnsynchronizedHidden g) (UnofferedGate h u) a r s c = absurd (not_above u 8 (omega arith) r)
same_warning (UnsynchronizedHidden g) (UnusedHidden h) a r s c = absurd (omega arith)
same_warning (UnsynchronizedHidden g) (UnsynchronizedHidden h) a r s c = ap UnsynchronizedHidden (placed_same g h a s)
same_warning (UnsynchronizedHidden g) (ExchangedGates q o) a r s c = absurd (omega arith)
same_warning (ExchangedGates p o) (UncalledProcess q) a r s c = absurd (omega arith)
same_warning (ExchangedGates p o) (UnreachedProcess q) a r s c = absurd (omega arith)
same_warning (ExchangedGates p o) (NeverExits q) a r s c = absurd (omega arith)
same_warning (ExchangedGates p o) (DeadStart q) a r s c = absurd (omega arith)
same_warning (ExchangedGates p o) (UnusedGate h e) a r s c = absurd (omega arith)
same_warning (ExchangedGates p o) (UnofferedGate h u) a r s c = absurd (not_above u 9 (omega arith) r)
same_warning (ExchangedGates p o) (UnusedHidden h) a r s c = absurd (omega arith)
same_warning (ExchangedGates p o) (UnsynchronizedHidden h) a r s c = absurd (omega arith)
same_warning (ExchangedGates p o) (ExchangedGates q n) a r s c = let same = placed_same p q a s in cc

-- warnings that compare as equal are the same
equal_warnings : (v w : Warning) → eq_by_cmp warning_cmp v w ≡ true → v ≡ w
equal_warnings v w e =
    let subjects = slice_cmp nat_cmp (subject_of v) (subject_of w) in
    let contexts = slice_cmp nat_cmp (context_of v) (context_of w) in
    let ranks = nat_cmp (rank_of v) (rank_of w) in
    let offsets = nat_cmp (offset_of v) (offset_of w) in
    let all = is_equal (warning_cmp v w) e in
    let after = second_equal offsets (ordering_then ranks (ordering_then subjects contexts)) all in
    let last = second_equal ranks (ordering_then subjects contexts) after in
    same_warning v w
    (equal_numbers _ _ (first_equal offsets (ordering_then ranks (ordering_then subjects contexts)) all))
    (equal_numbers _ _ (first_equal ranks (ordering_then subjects contexts) after))
    (same_from_equal _ _ (first_equal subjects contexts last))
    (same_from_equal _ _ (second_equal subjects contexts last))

module _ (total : IsTotalOrder warning_cmp) (laws : IsEquivalence (eq_by_cmp warning_cmp)) (old sorted new : List Warning)
    (moved : IsPermutation old sorted) (filtered : IsFiltered (DiffersFromLast (eq_by_cmp warning_cmp)) [] sorted new) where
  -- the new warnings are the sorted ones, without any that is equal to the one before it
  kept : new ≡ dedup (eq_by_cmp warning_cmp) sorted
  kept = dedup_is (eq_by_cmp warning_cmp) sorted new filtered

  -- the same warnings are left
  pub same_left : (w : Warning) → In w new ↔ In w old
  same_left w = (
    (λ i. contains_in old w (Contains-permutation sorted old w (IsPermutation-sym old sorted moved)
        (Contains-from_dedup (eq_by_cmp warning_cmp) sorted w (in_contains (dedup (eq_by_cmp warning_cmp) sorted) w (subst (In w) kept i))))),
    (λ i. subst (In w) (sym kept) (contains_in (dedup (eq_by_cmp warning_cmp) sorted) w
        (Contains-dedup laws equal_warnings sorted w (Contains-permutation old sorted w moved (in_contains old w i))))),
  )

  -- and they are in order
  pub in_order : IsSorted warning_cmp sorted → IsStrictlySortedBy warning_cmp new
  in_order orders = subst (IsStrictlySortedBy warning_cmp) (sym kept) (IsStrictlySortedBy-dedup total (λ v w. refl) sorted orders)
