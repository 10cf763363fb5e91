-- Sequences that tell states apart, by their first labels.
use Rattle.std.proofs.Common.{◌≡◌, ◌⊎◌, ◌∙◌, ℕ, List, [], ◌∷◌, Bool, true, false, MatchBool, Option, None, Some, inl, inr, refl, subst, sym, slice_get}
use Rattle.lotos_suite.proofs.MachineRuns.{first_step, one_number, some_apart, step_then}
use Rattle.lotos_suite.specs.ApartSearch.{AreAlike, AreFlags}
use Rattle.lotos_suite.specs.Machines.{CanDoFrom, IsMachineOver, Machine}
use Rattle.lotos_check.specs.NameLists.{In}
use Rattle.lotos_listing.specs.Order.{Label}
use Rattle.lotos_suite.specs.Suites.{TellsApart}

module _ (m : Machine) where
  -- the other way round
  pub tells_back : (j k : ℕ) (w : List Label) → TellsApart m j k w → TellsApart m k j w
  tells_back j k w (inl h) = inr h
  tells_back j k w (inr h) = inl h

  -- the empty sequence tells no states apart
  pub tells_empty : (j k : ℕ) → TellsApart m j k [] → ⊥
  tells_empty j k (inl (can, cannot)) = cannot (k, refl)
  tells_empty j k (inr (can, cannot)) = cannot (j, refl)

  -- the label leads from both states to others that the rest tells apart; or the label alone tells them apart
  abbrev pub IsApartStep : ℕ → ℕ → Label → List Label → Type 0
  IsApartStep j k x w =
      ((p : ℕ) × (q : ℕ) × (m.next j x ≡ Some p) × (m.next k x ≡ Some q) × TellsApart m p q w) ⊎ TellsApart m j k (x ∷ [])

  -- if the first state can do the sequence and the second cannot
  one_can : (j k : ℕ) (x : Label) (w : List Label) → CanDoFrom m j (x ∷ w) → (CanDoFrom m k (x ∷ w) → ⊥) → IsApartStep j k x w
  one_can j k x w can cannot = by (m.next k x) refl
    where
      by : (o : Option ℕ) → m.next k x ≡ o → IsApartStep j k x w
      by None is =
          let (p, step, rest) = first_step m j x w can in
          inr (inl (step_then m j p x [] step (p, refl), λ there. let (q, leads, more) = first_step m k x [] there in some_apart (sym is ∙ leads)))
      by (Some q) is =
          let (p, step, rest) = first_step m j x w can in
          inl (p, q, step, is, inl (rest, λ there. cannot (step_then m k q x w is there)))

  -- a sequence with a first label that tells states apart
  pub apart_step : (j k : ℕ) (x : Label) (w : List Label) → TellsApart m j k (x ∷ w) → IsApartStep j k x w
  apart_step j k x w (inl (can, cannot)) = one_can j k x w can cannot
  apart_step j k x w (inr (can, cannot)) = elim (one_can k j x w can cannot) [
    | inl (q, p, from, to, h) ↦ inl (p, q, to, from, tells_back q p w h)
    | inr h ↦ inr (tells_back k j (x ∷ []) h)
  ]

  -- a label before a sequence that one state can do and the other cannot
  after : (j k p q : ℕ) (x : Label) (w : List Label) → m.next j x ≡ Some p → m.next k x ≡ Some q → CanDoFrom m p w →
      (CanDoFrom m q w → ⊥) → CanDoFrom m j (x ∷ w) × (CanDoFrom m k (x ∷ w) → ⊥)
  after j k p q x w from to can cannot = (
    step_then m j p x w from can,
    λ there. let (r, leads, rest) = first_step m k x w there in cannot (subst (λ z. CanDoFrom m z w) (one_number r q (sym leads ∙ to)) rest),
  )

  -- and the other way round
  pub step_apart : (j k p q : ℕ) (x : Label) (w : List Label) → m.next j x ≡ Some p → m.next k x ≡ Some q → TellsApart m p q w →
      TellsApart m j k (x ∷ w)
  step_apart j k p q x w from to (inl (can, cannot)) = inl (after j k p q x w from to can cannot)
  step_apart j k p q x w from to (inr (can, cannot)) = inr (after k j q p x w to from can cannot)

  -- the first label of such a sequence is one of the machine's
  pub apart_label : (labels : List Label) → IsMachineOver labels m → (j k : ℕ) (x : Label) (w : List Label) → TellsApart m j k (x ∷ w) → In x labels
  apart_label labels over j k x w (inl (can, cannot)) = let (r, leads, rest) = first_step m j x w can in over.known j r x leads
  apart_label labels over j k x w (inr (can, cannot)) = let (r, leads, rest) = first_step m k x w can in over.known k r x leads

  -- states with the same flag are not told apart
  pub alike_not_apart : (w : List Label) (flags : List Bool) → AreFlags m w flags → (j k : ℕ) → AreAlike flags j k → TellsApart m j k w → ⊥
  alike_not_apart w flags are j k same = by same.flag (are.each j same.flag same.first) (are.each k same.flag same.second)
    where
      by : (flag : Bool) → MatchBool flag (CanDoFrom m j w) (CanDoFrom m j w → ⊥) → MatchBool flag (CanDoFrom m k w) (CanDoFrom m k w → ⊥) →
          TellsApart m j k w → ⊥
      by true p q (inl (can, cannot)) = cannot q
      by true p q (inr (can, cannot)) = cannot p
      by false p q (inl (can, cannot)) = p can
      by false p q (inr (can, cannot)) = q can

  -- states with other flags are told apart
  pub unlike_apart : (w : List Label) (flags : List Bool) → AreFlags m w flags → (j k : ℕ) (a b : Bool) → slice_get flags j ≡ Some a →
      slice_get flags k ≡ Some b → (AreAlike flags j k → ⊥) → TellsApart m j k w
  unlike_apart w flags are j k a b at_j at_k other = by a b at_j at_k (are.each j a at_j) (are.each k b at_k)
    where
      by : (a b : Bool) → slice_get flags j ≡ Some a → slice_get flags k ≡ Some b →
          MatchBool a (CanDoFrom m j w) (CanDoFrom m j w → ⊥) → MatchBool b (CanDoFrom m k w) (CanDoFrom m k w → ⊥) → TellsApart m j k w
      by true true at at_too p q = absurd (other (record { flag = true; first = at; second = at_too }))
      by true false at at_too p q = inl (p, q)
      by false true at at_too p q = inr (q, p)
      by false false at at_too p q = absurd (other (record { flag = false; first = at; second = at_too }))
