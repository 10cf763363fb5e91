-- Lists of words of which none names an unknown gate.
use Rattle.std.proofs.Common.{◌≡◌, ℕ, ◌<◌, ◌≤◌, ◌+◌, List, length, arith, inl, inr, refl, subst, Some, ◌⊎◌}
use Rattle.std.specs.Prelude.{slice_get}
use Rattle.std.proofs.lemmas.Bool.{cases_order}
use Rattle.std.proofs.lemmas.Option.{slice_get_within}
use Rattle.lotos_check.specs.NameLists.{Name}
use Rattle.lotos_check.proofs.ListIndices.{one_item}
use Rattle.lotos_pattern.specs.PatternFaults.{HasWord}
use Rattle.lotos_outcome.specs.UnknownGates.{HasNoUnknownGate, HasNoUnknownGateBefore, IsFirstUnknownGate, NamesUnknownGate}

-- if `Such` holds of no earlier word, and not of this one, it holds of none up to it
pub none_more : (Such : List ℕ → Type 0) (words : List (List ℕ)) (n : ℕ) (word : List ℕ) → slice_get words n ≡ Some word → (Such word → ⊥) →
    ((k : ℕ) (w : List ℕ) → k < n → slice_get words k ≡ Some w → Such w → ⊥) → (k : ℕ) (w : List ℕ) → k < n + 1 → slice_get words k ≡ Some w → Such w → ⊥
none_more Such words n word at none before k w h is such = by (below_or k n h)
  where
    below_or : (k n : ℕ) → k < n + 1 → (k < n) ⊎ (k ≡ n)
    below_or k n h = elim (cases_order k n) [
      | inl e ↦ inr e
      | inr o ↦ elim o [ inl less ↦ inl less | inr more ↦ absurd (omega arith) ]
    ]

    by : (k < n) ⊎ (k ≡ n) → ⊥
    by (inl less) = before k w less is such
    by (inr same) =
        let v : w ≡ word = one_item words n w word (subst (λ j. slice_get words j ≡ Some w) same is) at in
        none (subst Such v such)

-- if no earlier word names an unknown gate, and this one does not, none up to it does
pub known_more : (gates : List Name) (words : List (List ℕ)) (n : ℕ) (word : List ℕ) → slice_get words n ≡ Some word → (NamesUnknownGate gates word → ⊥) →
    HasNoUnknownGateBefore n gates words → HasNoUnknownGateBefore (n + 1) gates words
known_more gates words n word at none before = none_more (NamesUnknownGate gates) words n word at none before

-- if no earlier word names an unknown gate, and this one does, it is the first
pub first_unknown : (gates : List Name) (words : List (List ℕ)) (n : ℕ) (word : List ℕ) → slice_get words n ≡ Some word → NamesUnknownGate gates word →
    HasNoUnknownGateBefore n gates words → IsFirstUnknownGate gates words (n + 1)
first_unknown gates words n word at foreign before = record {
  unknown = record { before = n; word = word; counted = refl; located = at; such = foreign };
  earlier = none;
}
  where
    none : (m : ℕ) → m < n + 1 → HasWord words m (NamesUnknownGate gates) → ⊥
    none m less h = let counted = h.counted in before h.before h.word (omega arith) h.located h.such

-- if the number of words is reached, no word names an unknown gate
pub known_all : (gates : List Name) (words : List (List ℕ)) (n : ℕ) → length words ≤ n → HasNoUnknownGateBefore n gates words → HasNoUnknownGate gates words
known_all gates words n all known k w is = let below = slice_get_within words k w is in known k w (omega arith) is
