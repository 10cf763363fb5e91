-- How long the prefixes of the lines of a suite are, and how many there are.
use Rattle.std.proofs.Common.{◌≡◌, ◌⊎◌, ◌∙◌, ◌<◌, ◌≤◌, ◌+◌, ◌-◌, ℕ, zero, suc, true, false, List, [], ◌∷◌, ◌++◌, Option, None, Some, length, length-append, ap, arith, inl, inr, refl, subst, sym, slice_get}
use Rattle.std.specs.Bool.{◌==◌}
use Rattle.std.proofs.lemmas.Bool.{cases_lt}
use Rattle.std.proofs.lemmas.Bool.Decides.{nat_tests}
use Rattle.std.proofs.lemmas.List.{append_assoc, append-nil, length-map}
use Rattle.std.proofs.lemmas.Option.{same_Some, slice_get_within}
use Rattle.lotos_automaton.proofs.CoverOrder.{label_total}
use Rattle.lotos_suite.proofs.DistinctNumbers.{AreDifferent, at_most}
use Rattle.lotos_suite.proofs.LeafLines.{leaf_line, line_labels}
use Rattle.lotos_check.proofs.ListIndices.{get_some, in_get, one_item}
use Rattle.lotos_suite.proofs.MachineRuns.{can_or_not}
use Rattle.lotos_check.proofs.NameOrder.{below_differ}
use Rattle.lotos_listing.proofs.SequenceOrder.{before_irrefl}
use Rattle.lotos_suite.proofs.SuiteFronts.{begin_access}
use Rattle.lotos_suite.specs.ApartSearch.{IsByStep}
use Rattle.lotos_check.specs.NameLists.{In}
use Rattle.lotos_listing.specs.Order.{Before, Label}
use Rattle.lotos_suite.specs.SuiteLines.{AreSuiteLines}
use Rattle.lotos_suite.specs.SuitePrefixes.{IsOpen, IsPrefix, IsSetting, labels_at, line_of}
use Rattle.lotos_suite.specs.SuiteSearch.{AreLevel, AreLinesTo, kept_line}
use Rattle.lotos_suite.specs.SuiteTables.{Subject}
use Rattle.lotos_suite.specs.Suites.{Line, SuiteParts, labels_of}
use Rattle.lotos_suite.specs.declared.apart_sequences.ApartStep.{ApartStep}
use Rattle.lotos_suite.specs.declared.prefixes.Prefix.{Prefix}
use Rattle.lotos_suite.specs.declared.suite_lines.CutLine.{CutLine}

-- ---- counting

module _ (R : ℕ → ℕ → Type 0) (total : ℕ) where
  -- different numbers for the first ones
  record IsCounted (n : ℕ) (ds : List ℕ) : Type 0 where
    long : length ds ≡ n
    different : AreDifferent ds
    each : (d : ℕ) → In d ds → (d < total) × ((k : ℕ) × (k < n) × R k d)

  -- there are such numbers
  counted : (n : ℕ) → ((k : ℕ) → k < n → (d : ℕ) × (d < total) × R k d) → ((j k d : ℕ) → j < n → k < n → R j d → R k d → j ≡ k) →
      (ds : List ℕ) × IsCounted n ds
  counted zero has one = ([], record { long = refl; different = tt; each = λ d i. absurd i })
  counted (suc n) has one =
      let (ds, are) = counted n (λ k less. has k (omega arith)) (λ j k d less less_too. one j k d (omega arith) (omega arith)) in
      let (d, low, r) = has n (omega arith) in (
        d ∷ ds,
        record {
          long = ap suc are.long;
          different = (
            (λ i. let (low_too, (k, less, r_too)) = are.each d i in let same = one k n d (omega arith) (omega arith) r_too r in omega arith),
            are.different,
          );
          each = λ e i. elim i [
            | inl same ↦ (subst (λ z. z < total) same low, (n, omega arith, subst (R n) same r))
            | inr there ↦ let (low_too, (k, less, r_too)) = are.each e there in (low_too, (k, omega arith, r_too))
          ];
        },
      )

  -- if each of the first ones has a number of its own below a bound, there are no more than the bound
  pub pigeons : (n : ℕ) → ((k : ℕ) → k < n → (d : ℕ) × (d < total) × R k d) → ((j k d : ℕ) → j < n → k < n → R j d → R k d → j ≡ k) → n ≤ total
  pigeons n has one =
      let (ds, are) = counted n has one in
      let few = at_most total ds are.different (λ d i. (are.each d i).0) in
      let long = are.long in
      omega arith

-- ---- beginnings of sequences

-- a sequence begins with another one or not
starts_or_not : (u w : List Label) → ((y : List Label) × (w ≡ u ++ y)) ⊎ ((y : List Label) → w ≡ u ++ y → ⊥)
starts_or_not [] w = inl (w, refl)
starts_or_not (x ∷ u) [] = inr (λ y e. (let n : 0 ≡ suc (length (u ++ y)) = ap length e in omega arith))
starts_or_not (x ∷ u) (z ∷ w) = elim (label_total x z) [
  | inl less ↦ inr (λ y e. below_differ x z less (let h : z ≡ x = cc in sym h))
  | inr (inr more) ↦ inr (λ y e. below_differ z x more (let h : z ≡ x = cc in h))
  | inr (inl same) ↦ elim (starts_or_not u w) [
    | inl (y, is) ↦ inl (y, ap (λ t. t ∷ w) (sym same) ∙ ap (λ t. x ∷ t) is)
    | inr never ↦ inr (λ y e. never y (let h : w ≡ u ++ y = cc in h))
  ]
]

-- some line begins with the sequence, or none
some_or_none : (u : List Label) (lines : List Line) →
    ((j : ℕ) × (line : Line) × (slice_get lines j ≡ Some line) × ((y : List Label) × (labels_of line ≡ u ++ y))) ⊎
    ((line : Line) → In line lines → (y : List Label) → labels_of line ≡ u ++ y → ⊥)
some_or_none u [] = inr (λ line i y e. i)
some_or_none u (l ∷ lines) = elim (starts_or_not u (labels_of l)) [
  | inl (y, is) ↦ inl (0, l, refl, (y, is))
  | inr never ↦ elim (some_or_none u lines) [
    | inl (j, line, at, is) ↦ inl (suc j, line, at, is)
    | inr none ↦ inr (λ line i y e. elim i [
      | inl same ↦ never y (ap labels_of same ∙ e)
      | inr there ↦ none line there y e
    ])
  ]
]

-- two beginnings of the same length of one sequence are equal
same_begin : (u v y z : List Label) → length u ≡ length v → u ++ y ≡ v ++ z → u ≡ v
same_begin [] [] y z long e = refl
same_begin [] (b ∷ v) y z long e = absurd (let n : 0 ≡ suc (length v) = long in omega arith)
same_begin (a ∷ u) [] y z long e = absurd (let n : suc (length u) ≡ 0 = long in omega arith)
same_begin (a ∷ u) (b ∷ v) y z long e =
    let head : a ≡ b = cc in
    let tail : u ++ y ≡ v ++ z = cc in
    ap (λ t. t ∷ u) head ∙ ap (λ t. b ∷ t) (same_begin u v y z (let n : suc (length u) ≡ suc (length v) = long in omega arith) tail)

-- the beginning with so many labels
cut_after : (k : ℕ) (u : List Label) → k ≤ length u → (v : List Label) × (y : List Label) × (u ≡ v ++ y) × (length v ≡ k)
cut_after zero u less = ([], u, refl, refl)
cut_after (suc k) [] less = absurd (omega arith)
cut_after (suc k) (x ∷ u) less = let (v, y, is, long) = cut_after k u (omega arith) in (x ∷ v, y, ap (λ z. x ∷ z) is, ap suc long)

module _ (s : Subject) (extra : ℕ) (parts : SuiteParts) (steps : List (Option ApartStep)) (sequences : List (List Label))
    (set : IsSetting s extra parts steps sequences) where
  -- ---- lengths

  -- an access sequence has fewer labels than the machine has states
  access_short : (u : List Label) → In u parts.access → length u + 1 ≤ s.machine.states
  access_short u i =
      let count = set.first.access.counted in
      let few = pigeons (λ k d. (v : List Label) × (y : List Label) × (u ≡ v ++ y) × (length v ≡ k) × (slice_get parts.access d ≡ Some v))
      (length parts.access) (length u + 1)
      (λ k less.
      let (v, y, is, long) = cut_after k u (omega arith) in
      let there = begin_access s set.subject extra parts steps sequences set v y (subst (λ z. In z parts.access) is i) in
      let (d, at) = in_get parts.access v there in
      (d, slice_get_within parts.access d v at, (v, y, is, long, at)))
      (λ j k d less less_too (v, y, is, long, at) (w, z, same, long_too, at_too).
      let e = ap length (one_item parts.access d v w at at_too) in
      omega arith) in
      omega arith

  -- a sequence has no more labels than its number
  sequence_short : (n k : ℕ) (w : List Label) → k < n → slice_get sequences k ≡ Some w → length w ≤ k
  sequence_short zero k w less at = absurd (omega arith)
  sequence_short (suc n) k w less at =
      let within = slice_get_within sequences k w at in
      let (o, step) = get_some steps k (let c = set.by_steps.counted in omega arith) in
      by o (set.by_steps.each k o w step at) (λ j v low there. sequence_short n j v low there)
    where
      by : (o : Option ApartStep) → IsByStep s.labels sequences k o w → ((j : ℕ) (v : List Label) → j < n → slice_get sequences j ≡ Some v → length v ≤ j) →
          length w ≤ k
      by None e rest = let n : length w ≡ 0 = ap length e in omega arith
      by (Some step) h rest =
          let earlier = h.earlier in
          let short = rest step.rest h.rest (omega arith) h.rest_is in
          let e : length w ≡ suc (length h.rest) = ap length h.is in
          omega arith

  -- so a prefix is not longer than this
  pub open_short : (u : List Label) → IsOpen s.machine parts u → length u ≤ s.machine.states + extra + 1 + length steps
  open_short u open_ =
      let (y, word) = open_.word in
      let whole = length-append u y in
      let same = ap length word.is ∙ length-append word.front word.rest in
      let front = ap length word.begins.is ∙ length-append word.begins.access word.begins.labels in
      let first = access_short word.begins.access word.begins.leads in
      let more = word.begins.short in
      let e = set.first.more in
      let last : length word.rest ≤ length steps = elim word.ends [
        | inl empty ↦ (let n : length word.rest ≡ 0 = ap length empty in omega arith)
        | inr among ↦
            let (k, positive, at) = set.there word.rest among in
            let within = slice_get_within sequences k word.rest at in
            let counted = set.by_steps.counted in
            let short = sequence_short (k + 1) k word.rest (omega arith) at in
            omega arith
      ] in
      omega arith

  -- ---- lines

  -- some line begins with each prefix
  line_with : (lines : List Line) → AreSuiteLines s.machine parts lines → (u : List Label) → IsOpen s.machine parts u →
      (j : ℕ) × (line : Line) × (slice_get lines j ≡ Some line) × ((y : List Label) × (labels_of line ≡ u ++ y))
  line_with lines are u open_ = elim (some_or_none u lines) [
    | inl found ↦ found
    | inr none ↦ absurd (never (s.machine.states + extra + 1 + length steps + 1) u open_ [] (sym (append-nil u)) (omega arith) none)
  ]
    where
      leaf : (w : List Label) → IsOpen s.machine parts w → ((x : Label) → IsOpen s.machine parts (w ++ x ∷ []) → ⊥) →
          (line : Line) × In line lines × (labels_of line ≡ w)
      leaf w is alone = elim (can_or_not s.machine 0 w) [
        | inl can ↦ (line_of w false, (are.each (line_of w false)).1 (leaf_line s.machine parts w is alone false can), line_labels w false)
        | inr cannot ↦ (line_of w true, (are.each (line_of w true)).1 (leaf_line s.machine parts w is alone true cannot), line_labels w true)
      ]

      never : (n : ℕ) (w : List Label) → IsOpen s.machine parts w → (y : List Label) → w ≡ u ++ y →
          s.machine.states + extra + 1 + length steps < n + length w →
          ((line : Line) → In line lines → (y : List Label) → labels_of line ≡ u ++ y → ⊥) → ⊥
      never zero w is y same few none = let short = open_short w is in omega arith
      never (suc n) w is y same few none =
          let (line, there, labels) = leaf w is (λ x open_x.
          let long = length-append w (x ∷ []) in
          never n (w ++ x ∷ []) open_x (y ++ x ∷ []) (ap (λ z. z ++ x ∷ []) same ∙ append_assoc u y (x ∷ [])) (omega arith) none) in
          none line there y (labels ∙ same)

  -- ---- how many lines there are

  -- a line that was found has an index
  abbrev IsFoundAt : List CutLine → List Line → ℕ → ℕ → Type 0
  IsFoundAt found lines k j = (l : CutLine) × (slice_get found k ≡ Some l) × (slice_get lines j ≡ Some (kept_line s.labels l))

  -- and a line that begins with a prefix
  abbrev IsAheadAt : List CutLine → List Prefix → List Line → ℕ → ℕ → Type 0
  IsAheadAt found nodes lines k j = (p : Prefix) × (u : List Label) × (line : Line) × (y : List Label) × (n : ℕ) × (k ≡ length found + n) ×
      (slice_get nodes n ≡ Some p) × IsPrefix s parts sequences p u × (slice_get lines j ≡ Some line) × (labels_of line ≡ u ++ y)

  -- one of both
  abbrev IsLineAt : List CutLine → List Prefix → List Line → ℕ → ℕ → Type 0
  IsLineAt found nodes lines k j = IsFoundAt found lines k j ⊎ IsAheadAt found nodes lines k j

  -- there are at least as many lines as were found, and prefixes of the next length
  pub lines_many : (d : ℕ) (nodes : List Prefix) (found : List CutLine) (lines : List Line) → AreLevel s parts sequences d nodes →
      AreLinesTo s parts sequences d nodes 0 found → AreSuiteLines s.machine parts lines → length found + length nodes ≤ length lines
  lines_many d nodes found lines level are whole = pigeons (IsLineAt found nodes lines) (length lines) (length found + length nodes) has one
    where
      has : (k : ℕ) → k < length found + length nodes → (j : ℕ) × (j < length lines) × IsLineAt found nodes lines k j
      has k less = elim (cases_lt k (length found)) [
        | inl low ↦
            let (l, at) = get_some found k low in
            let (j, there) = in_get lines (kept_line s.labels l) ((whole.each (kept_line s.labels l)).1 (are.each k l at).0) in
            (j, slice_get_within lines j (kept_line s.labels l) there, inl (l, at, there))
        | inr high ↦
            let n = k - length found in
            let (p, at) = get_some nodes n (omega arith) in
            let (u, is, long) = level.each n p at in
            let (j, line, there, (y, labels)) = line_with lines whole u is.open_ in
            (j, slice_get_within lines j line there, inr (p, u, line, y, n, omega arith, at, is, there, labels))
      ]

      found_short : (k : ℕ) (l : CutLine) → slice_get found k ≡ Some l → length (labels_of (kept_line s.labels l)) < d
      found_short k l at = elim (are.each k l at).1 [
        | inl less ↦ (let e = ap length (line_labels (labels_at s.labels l.labels.items) l.is_refused) in omega arith)
        | inr early ↦ absurd (let z = early.below in omega arith)
      ]

      ahead_long : (p : Prefix) (u : List Label) (n : ℕ) → slice_get nodes n ≡ Some p → IsPrefix s parts sequences p u → length u ≡ d
      ahead_long p u n at is =
          let (v, is_v, long) = level.each n p at in
          ap length (is.labels ∙ sym is_v.labels) ∙ long

      one_found : (j k : ℕ) (l m : CutLine) → slice_get found j ≡ Some l → slice_get found k ≡ Some m → kept_line s.labels l ≡ kept_line s.labels m → j < k → ⊥
      one_found j k l m at_j at_k same less =
          let before = are.ascending j k l m less at_j at_k in
          let e = sym (line_labels (labels_at s.labels l.labels.items) l.is_refused) ∙ ap labels_of same ∙ line_labels
          (labels_at s.labels m.labels.items) m.is_refused in
          before_irrefl (labels_at s.labels m.labels.items) (subst (λ z. Before z (labels_at s.labels m.labels.items)) e before)

      one : (j k i : ℕ) → j < length found + length nodes → k < length found + length nodes → IsLineAt found nodes lines j i →
          IsLineAt found nodes lines k i → j ≡ k
      one j k i low low_too (inl (l, at, there)) (inl (m, at_too, there_too)) =
          let same = same_Some (kept_line s.labels l) (kept_line s.labels m) (sym there ∙ there_too) in
          elim (cases_lt j k) [
            | inl less ↦ absurd (one_found j k l m at at_too same less)
            | inr up ↦ elim (cases_lt k j) [
              | inl less ↦ absurd (one_found k j m l at_too at (sym same) less)
              | inr down ↦ omega arith
            ]
          ]
      one j k i low low_too (inl (l, at, there)) (inr (p, u, line, y, n, is_n, at_n, is, there_too, labels)) = absurd (
          let same = same_Some (kept_line s.labels l) line (sym there ∙ there_too) in
          let short = found_short j l at in
          let long = ahead_long p u n at_n is in
          let e = ap length (ap labels_of same ∙ labels) ∙ length-append u y in
          omega arith)
      one j k i low low_too (inr (p, u, line, y, n, is_n, at_n, is, there_too, labels)) (inl (l, at, there)) = absurd (
          let same = same_Some (kept_line s.labels l) line (sym there ∙ there_too) in
          let short = found_short k l at in
          let long = ahead_long p u n at_n is in
          let e = ap length (ap labels_of same ∙ labels) ∙ length-append u y in
          omega arith)
      one j k i low low_too (inr (p, u, line, y, n, is_n, at_n, is, there, labels)) (inr (q, v, other, z, m, is_m, at_m, is_q, there_too, labels_too)) =
          let same = same_Some line other (sym there ∙ there_too) in
          let long = ahead_long p u n at_n is in
          let long_too = ahead_long q v m at_m is_q in
          let equal = same_begin u v y z (long ∙ sym long_too) (sym labels ∙ ap labels_of same ∙ labels_too) in
          elim (cases_lt n m) [
            | inl less ↦ absurd (before_irrefl v (subst (λ t. Before t v) equal (level.ascending n m p q u v less at_n at_m is is_q)))
            | inr up ↦ elim (cases_lt m n) [
              | inl less ↦ absurd (before_irrefl v (subst (Before v) equal (level.ascending m n q p v u less at_m at_n is_q is)))
              | inr down ↦ omega arith
            ]
          ]

-- ---- the measure of the search

-- a list of which the test for emptiness fails has items
pub some_items : {X : Type 0} (xs : List X) → false ≡ (length xs == 0) → 0 < length xs
some_items [] e = absurd (grind (arith, nat_tests))
some_items (x ∷ xs) e = omega arith

-- and one of which it passes has none
pub no_items : {X : Type 0} (xs : List X) → true ≡ (length xs == 0) → length xs ≡ 0
no_items [] e = refl
no_items (x ∷ xs) e = absurd (grind (arith, nat_tests))

-- how many lengths are left from that of the prefixes
abbrev pub left_at : ℕ → List Prefix → ℕ
left_at most [] = 0
left_at most (p ∷ nodes) = most + 1 - length p.labels.items

module _ (s : Subject) (extra : ℕ) (parts : SuiteParts) (steps : List (Option ApartStep)) (sequences : List (List Label))
    (set : IsSetting s extra parts steps sequences) where
  -- the numbers of the labels of a prefix are as many as the labels
  numbers_long : (p : Prefix) (u : List Label) → IsPrefix s parts sequences p u → length p.labels.items ≡ length u
  numbers_long p u is = sym (length-map p.labels.items _) ∙ sym (ap length is.labels)

  -- there are fewer from the next length
  pub fewer_left : (d : ℕ) (nodes next : List Prefix) → AreLevel s parts sequences d nodes → AreLevel s parts sequences (d + 1) next → 0 < length nodes →
      left_at (s.machine.states + extra + 1 + length steps) next < left_at (s.machine.states + extra + 1 + length steps) nodes
  fewer_left d [] next level more some = absurd (omega arith)
  fewer_left d (p ∷ nodes) [] level more some =
      let (u, is, long) = level.each 0 p refl in
      let short = open_short s extra parts steps sequences set u is.open_ in
      let e = numbers_long p u is in
      omega arith
  fewer_left d (p ∷ nodes) (q ∷ next) level more some =
      let (u, is, long) = level.each 0 p refl in
      let (v, is_q, long_q) = more.each 0 q refl in
      let short = open_short s extra parts steps sequences set u is.open_ in
      let e = numbers_long p u is in
      let f = numbers_long q v is_q in
      omega arith
