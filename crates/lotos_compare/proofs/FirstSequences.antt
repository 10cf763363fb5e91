-- The first line of a comparison, and the first sequence that is observed of one system alone.
use Rattle.std.proofs.Common.{◌≡◌, ◌⊎◌, ◌≤◌, ℕ, suc, zero, List, [], ◌∷◌, ◌++◌, length, ap, inl, inr, refl, subst, sym, arith}
use Rattle.std.proofs.lemmas.List.{length-append}
use Rattle.lotos_listing.specs.Order.{Before, Below, Label}
use Rattle.lotos_listing.proofs.SequenceOrder.{before_irrefl, before_total, before_trans}
use Rattle.lotos_automaton.proofs.CoverOrder.{before_last, before_more, before_push, label_total}
use Rattle.lotos_compare.specs.Differences.{ComparisonKind, DiffersAt, IsFirstLine, IsObservedAlone, IsSideAsked, Line, Observations, Side}
use Rattle.lotos_compare.specs.Differences as d
use Rattle.lotos_compare.proofs.Inclusions.{AreObservations}

-- of two sequences that end with a label each, the one that comes first is shorter before it, or comes first there, or is the same there and has the
-- smaller label
before_cut : (r s : List Label) (x y : Label) → Before (r ++ x ∷ []) (s ++ y ∷ []) → Before r s ⊎ ((r ≡ s) × Below x y)
before_cut r s x y h = elim (before_total r s) [
  | inl before ↦ inl before
  | inr (inl same) ↦
      let here : Before (r ++ x ∷ []) (r ++ y ∷ []) = subst (λ t. Before (r ++ x ∷ []) (t ++ y ∷ [])) (sym same) h in
      elim (label_total x y) [
        | inl below ↦ inr (same, below)
        | inr (inl is) ↦ absurd (before_irrefl (r ++ y ∷ []) (subst (λ l. Before (r ++ l ∷ []) (r ++ y ∷ [])) is here))
        | inr (inr above) ↦ absurd (before_irrefl _ (before_trans _ _ _ here (before_last r y x above)))
      ]
  | inr (inr after) ↦ absurd (before_irrefl _ (before_trans _ _ _ h (before_push s r y x after)))
]

-- a sequence is empty, or ends with a label
cut_last : (s : List Label) → (s ≡ []) ⊎ ((r : List Label) × (x : Label) × (s ≡ r ++ x ∷ []))
cut_last [] = inl refl
cut_last (a ∷ s) = elim (cut_last s) [
  | inl e ↦ inr ([], a, ap (λ t. a ∷ t) e)
  | inr (r, x, e) ↦ inr (a ∷ r, x, ap (λ t. a ∷ t) e)
]

module _ (one other : Observations) (mine : AreObservations one) (theirs : AreObservations other) where
  -- the sequence with a label more is observed of the side alone
  abbrev AloneAt : Side → List Label → Type 0
  AloneAt d.first = IsObservedAlone one other
  AloneAt d.second = IsObservedAlone other one

  -- a sequence that is observed of one side alone begins with one that both can do, or the empty sequence is observed of one alone
  begun : (side : Side) (r : List Label) (x : Label) → AloneAt side (r ++ x ∷ []) → (DiffersAt one other side r (d.comes x) → ⊥) →
      (AloneAt side r → ⊥) → ⊥
  begun d.first r x (seen, unseen) no_line no_alone =
      let shorter = mine.shorter r x seen in
      no_alone (shorter, λ also. no_line ((shorter, also), (seen, unseen)))
  begun d.second r x (seen, unseen) no_line no_alone =
      let shorter = theirs.shorter r x seen in
      no_alone (shorter, λ also. no_line ((shorter, also), (seen, unseen)))

  -- the empty sequence is not
  empty_shared : (side : Side) → AloneAt side [] → ⊥
  empty_shared d.first (seen, unseen) = unseen theirs.begins
  empty_shared d.second (seen, unseen) = unseen mine.begins

  module _ (kind : ComparisonKind) (line : Line) (l : Label) (first : IsFirstLine one other kind line) (is : line.difference ≡ d.comes l) where
    -- a line that is asked for does not come before the first
    not_before : (side : Side) (r : List Label) (x : Label) → IsSideAsked kind side → Before (r ++ x ∷ []) (line.sequence ++ l ∷ []) →
        DiffersAt one other side r (d.comes x) → ⊥
    not_before side r x asked before differs =
        first.first (record { side = side; sequence = r; difference = d.comes x })
        (record { side_asked = asked; difference_asked = tt; differs = differs })
        (elim (before_cut r line.sequence x l before) [
          | inl sooner ↦ d.by_sequence sooner
          | inr (same, below) ↦ d.by_difference same (subst (λ e. d.IsEarlier side (d.comes x) line.side e) (sym is) (d.label_by_text below))
        ])

    -- no sequence of at most so many labels that is observed of that side alone comes before its sequence with the label
    pub none_before : (n : ℕ) (side : Side) → IsSideAsked kind side → (s : List Label) → length s ≤ n → AloneAt side s →
        Before s (line.sequence ++ l ∷ []) → ⊥
    none_before zero side asked s short alone before = elim (cut_last s) [
      | inl e ↦ empty_shared side (subst (AloneAt side) e alone)
      | inr (r, x, e) ↦ let long = ap length e in let pushed = length-append r (x ∷ []) in absurd (omega (arith, long, pushed))
    ]
    none_before (suc n) side asked s short alone before = elim (cut_last s) [
      | inl e ↦ empty_shared side (subst (AloneAt side) e alone)
      | inr (r, x, e) ↦
          let long = ap length e in
          let pushed = length-append r (x ∷ []) in
          let sooner = subst (λ t. Before t (line.sequence ++ l ∷ [])) e before in
          begun side r x (subst (AloneAt side) e alone) (not_before side r x asked sooner)
          (λ still. none_before n side asked r (omega (arith, long, pushed)) still
          (before_trans r (r ++ x ∷ []) (line.sequence ++ l ∷ []) (before_more r x) sooner))
    ]
