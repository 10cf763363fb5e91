-- When no label need follow at a state of a place.
use Rattle.std.proofs.Common.{◌≡◌, ℕ, zero, suc, ◌+◌, ◌≤◌, inl, inr, Bool, true, false, List, [], ◌∷◌, ◌++◌, length, drop, refl, sym, subst, arith}
use Rattle.std.specs.Prelude.{◌↔◌, MatchBool}
use Rattle.std.proofs.lemmas.Bool.{cases_lt}
use Rattle.std.proofs.lemmas.List.{drop_all}
use Rattle.lotos_pattern.specs.Patterns.{Element, IsJoin, Segment}
use Rattle.lotos_pattern.specs.NfaStates.{HasState, Place}
use Rattle.lotos_pattern.specs.PlaceTransitions.{CanContinue}

-- nothing is matched by a segment of nothing and the rest by nothing
parts_empty : (e : Element) (p : List Element) → IsJoin Segment (e ∷ p) [] → Segment e [] × IsJoin Segment p []
parts_empty e p ([], rest, segment, j, cut) = (segment, subst (IsJoin Segment p) (sym cut) j)
parts_empty e p (x ∷ front, rest, segment, j, cut) = absurd (let none : [] ≡ x ∷ (front ++ rest) = cut in let z : ⊥ = cc in z)

-- where the elements from one on may all be empty, so may those from a later one on
empty_on : (p : List Element) (k : ℕ) → IsJoin Segment p [] → IsJoin Segment (drop k p) []
empty_on p zero j = j
empty_on [] (suc k) j = j
empty_on (e ∷ p) (suc k) j = empty_on p k (parts_empty e p j).1

-- if the elements from index `i` on may all be empty, so may those from `k` on, for `k` not below `i`
empty_from : (p : List Element) (i k : ℕ) → i ≤ k → IsJoin Segment (drop i p) [] → IsJoin Segment (drop k p) []
empty_from p zero k h j = empty_on p k j
empty_from [] (suc i) k h j = empty_on [] k j
empty_from (e ∷ p) (suc i) zero h j = absurd (omega arith)
empty_from (e ∷ p) (suc i) (suc k) h j = empty_from p i k (omega arith) j

-- after the last element
pub none_left : (p : List Element) (k : ℕ) → length p ≤ k → IsJoin Segment (drop k p) []
none_left p k past = subst (λ q. IsJoin Segment q []) (sym (drop_all k p past)) refl

-- if all elements may be empty, those from index `k` on may be exactly if `k` is at least 0
pub none_needed : (p : List Element) (k : ℕ) → IsJoin Segment (drop 0 p) [] → IsJoin Segment (drop k p) [] ↔ (0 ≤ k)
none_needed p k j = (λ m. omega arith, λ h. empty_from p 0 k h j)

module _ (p : List Element) (i : ℕ) (e : Element) (here : drop i p ≡ e ∷ drop (i + 1) p) (rest : IsJoin Segment (drop (i + 1) p) []) where
  -- an element more that may be empty
  pub empty_too : Segment e [] → IsJoin Segment (drop i p) []
  empty_too segment = subst (λ q. IsJoin Segment q []) (sym here) ([], [], segment, rest, refl)

  -- the last element that may not be empty
  pub last_needed : (Segment e [] → ⊥) → (k : ℕ) → IsJoin Segment (drop k p) [] ↔ (i + 1 ≤ k)
  last_needed needed k = (
    λ m. elim (cases_lt i k) [
      | inl h ↦ omega arith
      | inr h ↦ absurd (needed (parts_empty e (drop (i + 1) p) (subst (λ q. IsJoin Segment q []) here (empty_from p k i h m))).0)
    ],
    λ h. empty_from p (i + 1) k h rest,
  )

-- no label need follow where so many elements are done as have to be
pub ending : (p : List Element) (place : Place) (n : ℕ) (past : Bool) → ((k : ℕ) → IsJoin Segment (drop k p) [] ↔ (n ≤ k)) →
    MatchBool past ((k : ℕ) × (n ≤ k) × HasState place k) ((k : ℕ) → n ≤ k → HasState place k → ⊥) →
    MatchBool past (CanContinue p place []) (CanContinue p place [] → ⊥)
ending p place n true done (k, far, has) = record { state = k; has = has; joined = (done k).1 far }
ending p place n false done none = λ m. none m.state ((done m.state).0 m.joined) m.has
