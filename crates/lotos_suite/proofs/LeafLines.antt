-- The lines of a suite are the sequences that begin words and go on in none.
use Rattle.std.proofs.Common.{◌≡◌, ◌∙◌, Bool, true, false, List, [], ◌∷◌, ◌++◌, ap, inl, inr, refl, subst, sym}
use Rattle.std.proofs.lemmas.List.{append_assoc, append-nil}
use Rattle.lotos_suite.proofs.CutWords.{labels_front, machine_before}
use Rattle.lotos_suite.proofs.MachineRuns.{can_both, can_front, can_or_not, can_rest, cut_at}
use Rattle.lotos_suite.proofs.SuiteFronts.{LastLabel, last, last_label, none, same_last}
use Rattle.lotos_suite.specs.Machines.{CanDo, Machine}
use Rattle.lotos_listing.specs.Order.{Label}
use Rattle.lotos_suite.specs.SuitePrefixes.{BeginsWord, IsOpen, after, line_of, refused_from}
use Rattle.lotos_suite.specs.Suites.{IsCutWord, IsSuiteLine, IsWord, Line, SuiteParts, can, cannot, labels_of}

-- ---- lines by their labels

-- the labels of a line after a label
after_labels : (x : Label) (line : Line) → labels_of (after x line) ≡ x ∷ labels_of line
after_labels x (can u) = refl
after_labels x (cannot u l) = refl

-- the labels of a line that ends with one that cannot come
refused_labels : (x : Label) (u : List Label) → labels_of (refused_from x u) ≡ x ∷ u
refused_labels x [] = refl
refused_labels x (y ∷ u) = after_labels x (refused_from y u) ∙ ap (λ z. x ∷ z) (refused_labels y u)

-- the labels of a line
pub line_labels : (u : List Label) (refused : Bool) → labels_of (line_of u refused) ≡ u
line_labels [] refused = refl
line_labels (x ∷ u) false = refl
line_labels (x ∷ u) true = refused_labels x u

-- a line that ends with a label that cannot come
refused_last : (y : Label) (v : List Label) (x : Label) → refused_from y (v ++ x ∷ []) ≡ cannot (y ∷ v) x
refused_last y [] x = refl
refused_last y (z ∷ v) x = ap (after y) (refused_last z v x)

-- as well as one with labels before it
pub line_cannot : (v : List Label) (x : Label) → line_of (v ++ x ∷ []) true ≡ cannot v x
line_cannot [] x = refl
line_cannot (y ∷ v) x = refused_last y v x

-- the line of labels that can come
pub line_can : (u : List Label) → line_of u false ≡ can u
line_can [] = refl
line_can (x ∷ u) = refl

module _ (m : Machine) (parts : SuiteParts) where
  -- the flag is whether the machine cannot do the sequence
  abbrev pub IsRefused : List Label → Bool → Type 0
  IsRefused u true = CanDo m u → ⊥
  IsRefused u false = CanDo m u

  -- a beginning of what begins a word
  begins_less : (u y : List Label) → BeginsWord parts (u ++ y) → BeginsWord parts u
  begins_less u y (z, word) = (y ++ z, subst (IsWord parts) (append_assoc u y z) word)

  -- a sequence that goes on
  pub open_next : (u : List Label) (x : Label) → CanDo m u → BeginsWord parts (u ++ x ∷ []) → IsOpen m parts (u ++ x ∷ [])
  open_next u x can_do begins = record { word = begins; can = λ v y e. subst (CanDo m) (same_last u v x y e).0 can_do }

  -- a line that goes on after the sequence
  continues : (u : List Label) → ((x : Label) → IsOpen m parts (u ++ x ∷ []) → ⊥) → (other : Line) → IsCutWord m parts other →
      (l : Label) (y : List Label) → labels_of other ≡ u ++ l ∷ y → ⊥
  continues u alone other (w, word, line) l y same =
      let can_do = machine_before m m parts u w other l y same line in
      let (z, front) = labels_front m m parts w other line in
      let begins : BeginsWord parts ((u ++ l ∷ []) ++ (y ++ z)) = (
        [],
        subst (IsWord parts)
            (front ∙ ap (λ v. v ++ z) same ∙ append_assoc u (l ∷ y) z ∙ sym (append_assoc u (l ∷ []) (y ++ z)) ∙ sym
            (append-nil ((u ++ l ∷ []) ++ (y ++ z)))) word,
      ) in
      alone l (open_next u l can_do (begins_less (u ++ l ∷ []) (y ++ z) begins))

  -- a sequence that begins a word and goes on in none is a line
  pub leaf_line : (u : List Label) → IsOpen m parts u → ((x : Label) → IsOpen m parts (u ++ x ∷ []) → ⊥) → (refused : Bool) → IsRefused u refused →
      IsSuiteLine m parts (line_of u refused)
  leaf_line u is alone false can_do = subst (IsSuiteLine m parts) (sym (line_can u)) (record {
    cut = by is.word;
    longest = λ other cut (l, y, same). continues u alone other cut l y same;
  })
    where
      by : BeginsWord parts u → IsCutWord m parts (can u)
      by ([], word) = (u, subst (IsWord parts) (append-nil u) word, (refl, can_do))
      by (x ∷ y, word) = absurd (alone x (open_next u x can_do (y, subst (IsWord parts) (sym (append_assoc u (x ∷ []) y)) word)))
  leaf_line u is alone true cannot_do = by (last_label u) is cannot_do alone
    where
      by : {u : List Label} → LastLabel u → IsOpen m parts u → (CanDo m u → ⊥) → ((x : Label) → IsOpen m parts (u ++ x ∷ []) → ⊥) →
          IsSuiteLine m parts (line_of u true)
      by none is cannot_do alone = absurd (cannot_do (0, refl))
      by (last v x) is cannot_do alone = subst (IsSuiteLine m parts) (sym (line_cannot v x)) (record {
        cut = let (y, word) = is.word in ((v ++ x ∷ []) ++ y, word, ((y, append_assoc v (x ∷ []) y), is.can v x refl, cannot_do));
        longest = λ other cut (l, y, same). continues (v ++ x ∷ []) alone other cut l y same;
      })

  -- a word that begins with a sequence that the machine can do, and a label, has a line that does
  longer_line : (u : List Label) (x : Label) (y : List Label) → CanDo m u → IsWord parts ((u ++ x ∷ []) ++ y) →
      (line : Line) × IsCutWord m parts line × ((z : List Label) × (labels_of line ≡ u ++ x ∷ z))
  longer_line u x y (q, leads) word = elim (can_or_not m 0 ((u ++ x ∷ []) ++ y)) [
    | inl can_do ↦ (can ((u ++ x ∷ []) ++ y), ((u ++ x ∷ []) ++ y, word, (refl, can_do)), (y, append_assoc u (x ∷ []) y))
    | inr cannot_do ↦
        let (v, l, z, same, can_v, not_next) = cut_at m q (x ∷ y) (λ h. cannot_do (subst (CanDo m) (sym (append_assoc u (x ∷ []) y))
        (can_both m 0 q u (x ∷ y) leads h))) in (
          cannot (u ++ v) l,
          (
            (u ++ x ∷ []) ++ y,
            word,
            (
              (z, append_assoc u (x ∷ []) y ∙ ap (λ w. u ++ w) same ∙ sym (append_assoc u v (l ∷ z))),
              can_both m 0 q u v leads can_v,
              λ h. not_next (can_rest m 0 q u (v ++ l ∷ []) leads (subst (CanDo m) (append_assoc u v (l ∷ [])) h)),
            ),
          ),
          begins v l z same,
        )
  ]
    where
      begins : (v : List Label) (l : Label) (z : List Label) → x ∷ y ≡ v ++ l ∷ z → (t : List Label) × ((u ++ v) ++ l ∷ [] ≡ u ++ x ∷ t)
      begins [] l z same = ([], let head : x ≡ l = cc in append_assoc u [] (l ∷ []) ∙ ap (λ w. u ++ w ∷ []) (sym head))
      begins (w ∷ v) l z same = let head : x ≡ w = cc in (v ++ l ∷ [], append_assoc u (w ∷ v) (l ∷ []) ∙ ap (λ t. u ++ (t ∷ (v ++ l ∷ []))) (sym head))

  -- a line begins a word, goes on in none, and is the one with its labels
  pub line_leaf : (line : Line) → IsSuiteLine m parts line → IsOpen m parts (labels_of line) ×
      ((x : Label) → IsOpen m parts (labels_of line ++ x ∷ []) → ⊥) ×
      ((refused : Bool) × IsRefused (labels_of line) refused × (line ≡ line_of (labels_of line) refused))
  line_leaf (can u) is =
      let (w, word, (same, can_do)) = is.cut in
      let whole : IsWord parts (u ++ []) = subst (IsWord parts) (same ∙ sym (append-nil u)) word in (
        record { word = ([], whole); can = λ v x e. can_front m 0 v (x ∷ []) (subst (CanDo m) e can_do) },
        (λ x h. let (y, more) = h.word in
            let (line, cut, (z, labels)) = longer_line u x y can_do more in
            is.longest line cut (x, z, labels)),
        (false, can_do, sym (line_can u)),
      )
  line_leaf (cannot v l) is =
      let (w, word, ((y, same), can_do, not_next)) = is.cut in
      let whole : IsWord parts ((v ++ l ∷ []) ++ y) = subst (IsWord parts) (same ∙ sym (append_assoc v (l ∷ []) y)) word in (
        record { word = (y, whole); can = λ t x e. subst (CanDo m) (same_last v t l x e).0 can_do },
        (λ x h. not_next (h.can (v ++ l ∷ []) x refl)),
        (true, not_next, sym (line_cannot v l)),
      )
