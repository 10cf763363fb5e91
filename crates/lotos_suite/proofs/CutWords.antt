-- Lines of words: an implementation that passes the longest of them passes all.
use Rattle.std.proofs.Common.{◌≡◌, ◌⊎◌, ◌↔◌, ◌∙◌, ◌<◌, ◌≤◌, ◌+◌, ℕ, zero, suc, List, [], ◌∷◌, ◌++◌, length, ap, arith, inl, inr, refl, subst, sym}
use Rattle.std.proofs.lemmas.List.{append_assoc, append-nil, length-append}
use Rattle.lotos_check.specs.NameLists.{In}
use Rattle.lotos_listing.specs.Order.{Label}
use Rattle.lotos_suite.specs.Machines.{CanDo, Machine}
use Rattle.lotos_suite.specs.Suites.{IsCutWord, IsContinuedBy, IsLineOfWord, IsSuiteLine, IsWord, Line, Passes, PassesSuite, SuiteParts, labels_of}
use Rattle.lotos_suite.specs.Suites as s
use Rattle.lotos_suite.proofs.MachineRuns.{can_front, can_or_not, cut_at}

-- the length of the longest of some sequences
abbrev pub longest : List (List Label) → ℕ
longest [] = 0
longest (x ∷ xs) = length x + longest xs

-- none of them is longer
pub no_longer : (xs : List (List Label)) (x : List Label) → In x xs → length x ≤ longest xs
no_longer [] x i = absurd i
no_longer (y ∷ xs) x (inl same) = let e : length y ≡ length x = ap length same in omega arith
no_longer (y ∷ xs) x (inr i) = let h = no_longer xs x i in omega arith

-- a sum in another order
same_sum : (a b : ℕ) → a + suc b ≡ a + (b + 1)
same_sum a b = omega arith

-- if a sequence with a last label begins with another one and a label, it begins with the other one without its last
front_of_last : (t r : List Label) (l k : Label) (y : List Label) → r ++ k ∷ [] ≡ t ++ l ∷ y → (z : List Label) × (r ≡ t ++ z)
front_of_last [] r l k y same = (r, refl)
front_of_last (a ∷ t) [] l k y same = absurd (no_end t l y (let h : [] ≡ t ++ l ∷ y = cc in h))
  where
    no_end : (t : List Label) (l : Label) (y : List Label) → [] ≡ t ++ l ∷ y → ⊥
    no_end [] l y e = cc
    no_end (x ∷ t) l y e = cc
front_of_last (a ∷ t) (b ∷ r) l k y same =
    let head : b ≡ a = cc in
    let tail : r ++ k ∷ [] ≡ t ++ l ∷ y = cc in
    let (z, is) = front_of_last t r l k y tail in
    (z, λ i. head i ∷ is i)

module _ (parts : SuiteParts) where
  -- a bound for the lengths of words
  abbrev pub bound : ℕ
  bound = longest parts.access + (parts.extra + 1) + longest parts.apart

  -- no word is longer
  pub word_length : (u : List Label) → IsWord parts u → length u ≤ bound
  word_length u word =
      let begins = word.begins in
      let first = no_longer parts.access begins.access begins.leads in
      let short = begins.short in
      let rest = rest_length word.ends in
      let whole : length u ≡ length word.front + length word.rest = ap length word.is ∙ length-append word.front word.rest in
      let front : length word.front ≡ length begins.access + length begins.labels = ap length begins.is ∙ length-append begins.access begins.labels in
      omega arith
    where
      rest_length : (word.rest ≡ []) ⊎ In word.rest parts.apart → length word.rest ≤ longest parts.apart
      rest_length (inl e) = let h : length word.rest ≡ 0 = ap length e in omega arith
      rest_length (inr i) = no_longer parts.apart word.rest i

module _ (m implementation : Machine) (parts : SuiteParts) where
  -- all labels of a line of a word are a beginning of the word
  pub labels_front : (u : List Label) (line : Line) → IsLineOfWord m u line → (y : List Label) × (u ≡ labels_of line ++ y)
  labels_front u (s.can t) (same, can) = ([], same ∙ sym (append-nil t))
  labels_front u (s.cannot t l) ((y, same), can, not_next) = (y, same ∙ sym (append_assoc t (l ∷ []) y))

  -- so they are no more than the bound
  line_length : (line : Line) → IsCutWord m parts line → length (labels_of line) ≤ bound parts
  line_length line (u, word, cut) =
      let (y, same) = labels_front u line cut in
      let all = word_length parts u word in
      let whole : length u ≡ length (labels_of line) + length y = ap length same ∙ length-append (labels_of line) y in
      omega arith

  -- an implementation passes a line or does not
  passes_or_not : (line : Line) → Passes implementation line ⊎ (Passes implementation line → ⊥)
  passes_or_not (s.can t) = can_or_not implementation 0 t
  passes_or_not (s.cannot t l) = elim (can_or_not implementation 0 t) [
    | inl can ↦ elim (can_or_not implementation 0 (t ++ l ∷ [])) [
      | inl next ↦ inr (λ h. h.1 next)
      | inr not_next ↦ inl (can, not_next)
    ]
    | inr cannot ↦ inr (λ h. cannot h.0)
  ]

  -- what passes a line that continues another one can do all labels of that one
  can_before : (t : List Label) (other : Line) (l : Label) (y : List Label) → labels_of other ≡ t ++ l ∷ y → Passes implementation other →
      CanDo implementation t
  can_before t (s.can r) l y same passes = can_front implementation 0 t (l ∷ y) (subst (CanDo implementation) same passes)
  can_before t (s.cannot r k) l y same passes =
      let (z, is) = front_of_last t r l k y same in can_front implementation 0 t z (subst (CanDo implementation) is passes.0)

  -- and the machine itself can do them
  pub machine_before : (t : List Label) (u : List Label) (other : Line) (l : Label) (y : List Label) → labels_of other ≡ t ++ l ∷ y →
      IsLineOfWord m u other → CanDo m t
  machine_before t u (s.can r) l y same (is, can) = can_front m 0 t (l ∷ y) (subst (CanDo m) same can)
  machine_before t u (s.cannot r k) l y same (is, can, not_next) =
      let (z, front) = front_of_last t r l k y same in can_front m 0 t z (subst (CanDo m) front can)

  -- what passes a line that continues another one passes that one
  passes_before : (line other : Line) (l : Label) (y : List Label) → IsCutWord m parts line → IsCutWord m parts other →
      labels_of other ≡ labels_of line ++ l ∷ y → Passes implementation other → Passes implementation line
  passes_before (s.can t) other l y cut there continues passes = can_before t other l y continues passes
  passes_before (s.cannot t k) other l y (u, word, (is, can, not_next)) (v, word_too, line) continues passes =
      absurd (not_next (machine_before (t ++ k ∷ []) v other l y continues line))

  -- what passes the suite passes the line of each word
  pass_all : PassesSuite m parts implementation → (n : ℕ) (line : Line) → IsCutWord m parts line → bound parts < n + length (labels_of line) →
      Passes implementation line
  pass_all suite zero line cut h = let few = line_length line cut in absurd (omega arith)
  pass_all suite (suc n) line cut h = elim (passes_or_not line) [
    | inl passes ↦ passes
    | inr fails ↦ suite line (record {
      cut = cut;
      longest = λ other there (l, y, continues).
          let more : length (labels_of other) ≡ length (labels_of line) + (length y + 1) =
          ap length continues ∙ length-append (labels_of line) (l ∷ y) ∙ same_sum (length (labels_of line)) (length y) in
          fails (passes_before line other l y cut there continues (pass_all suite n other there (omega arith)));
    })
  ]

  -- so it can do the words that the machine can do, and no others
  pub words_agree : PassesSuite m parts implementation → (u : List Label) → IsWord parts u → CanDo m u ↔ CanDo implementation u
  words_agree suite u word = elim (can_or_not m 0 u) [
    | inl can ↦
        ((λ here. pass_all suite (bound parts + 1) (s.can u) (u, word, (refl, can)) (omega arith)), (λ there. can))
    | inr cannot ↦
        let (t, l, y, same, can, not_next) = cut_at m 0 u cannot in
        let passes = pass_all suite (bound parts + 1) (s.cannot t l) (u, word, ((y, same), can, not_next)) (omega arith) in (
          (λ here. absurd (cannot here)),
          (λ there.
              absurd (passes.1 (can_front implementation 0 (t ++ l ∷ []) y (subst (CanDo implementation) (same ∙ sym (append_assoc t (l ∷ []) y)) there)))),
        )
  ]

  -- and an implementation that can do the same passes the suite
  pub same_passes : ((u : List Label) → CanDo m u ↔ CanDo implementation u) → PassesSuite m parts implementation
  same_passes same (s.can t) line = let (u, word, (is, can)) = line.cut in (same t).0 can
  same_passes same (s.cannot t l) line =
      let (u, word, (is, can, not_next)) = line.cut in ((same t).0 can, λ there. not_next ((same (t ++ l ∷ [])).1 there))
