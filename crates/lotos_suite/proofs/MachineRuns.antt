-- The states to which sequences lead in a machine.
use Rattle.std.proofs.Common.{◌≡◌, ◌⊎◌, ◌∙◌, ◌<◌, ℕ, List, [], ◌∷◌, ◌++◌, Option, None, Some, ap, inl, inr, refl, subst, sym}
use Rattle.lotos_listing.specs.Order.{Label}
use Rattle.lotos_suite.specs.Machines.{CanDoFrom, IsMachineOver, Machine, onward, state_after}

-- a number cannot be none
pub some_apart : {q : ℕ} → None ≡ Some q → ⊥
some_apart e = cc

-- one number is another, if both are the same option
pub one_number : (q r : ℕ) → Some q ≡ Some r → q ≡ r
one_number q r e = cc

module _ (m : Machine) where
  -- a sequence leads on from the state that another one leads to
  pub after_both : (q r : ℕ) (s t : List Label) → state_after m q s ≡ Some r → state_after m q (s ++ t) ≡ state_after m r t
  after_both q r [] t e = ap (λ v. state_after m v t) (one_number q r e)
  after_both q r (l ∷ s) t e = by (m.next q l) e (λ v h. after_both v r s t h)
    where
      by : (o : Option ℕ) → onward o (λ v. state_after m v s) ≡ Some r → ((v : ℕ) → state_after m v s ≡ Some r → state_after m v (s ++ t) ≡ state_after m r t) →
          onward o (λ v. state_after m v (s ++ t)) ≡ state_after m r t
      by None h step = absurd (some_apart h)
      by (Some v) h step = step v h

  -- a state that can do a sequence can do what it begins with
  pub can_front : (q : ℕ) (s t : List Label) → CanDoFrom m q (s ++ t) → CanDoFrom m q s
  can_front q [] t (r, e) = (q, refl)
  can_front q (l ∷ s) t (r, e) = by (m.next q l) e (λ v h. can_front v s t (r, h))
    where
      by : (o : Option ℕ) → onward o (λ v. state_after m v (s ++ t)) ≡ Some r → ((v : ℕ) → state_after m v (s ++ t) ≡ Some r → CanDoFrom m v s) →
          (z : ℕ) × (onward o (λ v. state_after m v s) ≡ Some z)
      by None h step = absurd (some_apart h)
      by (Some v) h step = step v h

  -- a state can do a sequence or cannot
  pub can_or_not : (q : ℕ) (s : List Label) → CanDoFrom m q s ⊎ (CanDoFrom m q s → ⊥)
  can_or_not q s = by (state_after m q s) refl
    where
      by : (o : Option ℕ) → state_after m q s ≡ o → CanDoFrom m q s ⊎ (CanDoFrom m q s → ⊥)
      by None e = inr (λ (r, h). some_apart (sym e ∙ h))
      by (Some r) e = inl (r, e)

  -- the state after both sequences is one that the second leads to, from that after the first
  pub can_rest : (q r : ℕ) (s t : List Label) → state_after m q s ≡ Some r → CanDoFrom m q (s ++ t) → CanDoFrom m r t
  can_rest q r s t e (z, h) = (z, sym (after_both q r s t e) ∙ h)

  -- and the other way round
  pub can_both : (q r : ℕ) (s t : List Label) → state_after m q s ≡ Some r → CanDoFrom m r t → CanDoFrom m q (s ++ t)
  can_both q r s t e (z, h) = (z, after_both q r s t e ∙ h)

  -- a state that can do a sequence can do its first label
  pub first_step : (q : ℕ) (l : Label) (s : List Label) → CanDoFrom m q (l ∷ s) → (r : ℕ) × (m.next q l ≡ Some r) × CanDoFrom m r s
  first_step q l s (z, e) = by (m.next q l) refl e
    where
      by : (o : Option ℕ) → m.next q l ≡ o → onward o (λ v. state_after m v s) ≡ Some z → (r : ℕ) × (m.next q l ≡ Some r) × CanDoFrom m r s
      by None is h = absurd (some_apart h)
      by (Some r) is h = (r, is, (z, h))

  -- a step, and then a sequence
  pub step_then : (q r : ℕ) (l : Label) (s : List Label) → m.next q l ≡ Some r → CanDoFrom m r s → CanDoFrom m q (l ∷ s)
  step_then q r l s e (z, h) = (z, ap (λ o. onward o (λ v. state_after m v s)) e ∙ h)

  -- a step at the end of a sequence
  pub step_last : (q r z : ℕ) (s : List Label) (l : Label) → state_after m q s ≡ Some r → m.next r l ≡ Some z → state_after m q (s ++ l ∷ []) ≡ Some z
  step_last q r z s l e h = after_both q r s (l ∷ []) e ∙ ap (λ o. onward o (λ v. Some v)) h

  -- the state after a sequence is one of the machine's, if the first one is
  pub state_below : (labels : List Label) → IsMachineOver labels m → (q r : ℕ) (s : List Label) → q < m.states → state_after m q s ≡ Some r → r < m.states
  state_below labels over q r [] below e = subst (λ v. v < m.states) (one_number q r e) below
  state_below labels over q r (l ∷ s) below e =
      let (v, is, rest) = first_step q l s (r, e) in
      let same : rest.0 ≡ r = one_number rest.0 r (sym (ap (λ o. onward o (λ x. state_after m x s)) is ∙ rest.1) ∙ e) in
      subst (λ x. x < m.states) same (state_below labels over v rest.0 s (over.below q v l is) rest.1)

  -- where a state cannot do a sequence, it can do a beginning of it and then not the next label
  pub cut_at : (q : ℕ) (u : List Label) → (CanDoFrom m q u → ⊥) →
      (s : List Label) × (l : Label) × (y : List Label) × (u ≡ s ++ l ∷ y) × CanDoFrom m q s × (CanDoFrom m q (s ++ l ∷ []) → ⊥)
  cut_at q [] cannot = absurd (cannot (q, refl))
  cut_at q (l ∷ u) cannot = by (m.next q l) refl (λ v is. cut_at v u (λ can. cannot (step_then q v l u is can)))
    where
      by : (o : Option ℕ) → m.next q l ≡ o → ((v : ℕ) → m.next q l ≡ Some v →
          (s : List Label) × (k : Label) × (y : List Label) × (u ≡ s ++ k ∷ y) × CanDoFrom m v s × (CanDoFrom m v (s ++ k ∷ []) → ⊥)) →
          (s : List Label) × (k : Label) × (y : List Label) × (l ∷ u ≡ s ++ k ∷ y) × CanDoFrom m q s × (CanDoFrom m q (s ++ k ∷ []) → ⊥)
      by None is rest = ([], l, u, refl, (q, refl), λ can. let (v, there, more) = first_step q l [] can in some_apart (sym is ∙ there))
      by (Some v) is rest =
          let (s, k, y, same, can, cannot_next) = rest v is in (
            l ∷ s,
            k,
            y,
            ap (λ x. l ∷ x) same,
            step_then q v l s is can,
            λ both.
                let (w, there, more) = first_step q l (s ++ k ∷ []) both in
                cannot_next (subst (λ x. CanDoFrom m x (s ++ k ∷ [])) (one_number w v (sym there ∙ is)) more),
          )
