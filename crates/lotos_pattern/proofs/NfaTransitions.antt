-- The NFA states to which a label leads from those of a place, and those after a sequence.
use Rattle.std.proofs.Common.{◌≡◌, ℕ, Bool, ◌+◌, ◌<◌, ◌≤◌, ◌⊎◌, inl, inr, Option, None, Some, List, [], ◌∷◌, ◌++◌, length, refl, sym, subst, arith}
use Rattle.std.specs.Prelude.{◌↔◌, MatchOption, slice_get, unwrap_or}
use Rattle.std.proofs.lemmas.Bool.{cases_lt}
use Rattle.std.proofs.lemmas.List.{same_from_push}
use Rattle.std.proofs.lemmas.Option.{slice_get_within}
use Rattle.lotos_pattern.specs.PatternLabels.{Label}
use Rattle.lotos_pattern.specs.Patterns.{Element, Pattern, Segment}
use Rattle.lotos_pattern.specs.ElementView.{CanOccur}
use Rattle.lotos_pattern.specs.NfaStates.{HasState, IsFirstState, Place}
use Rattle.lotos_pattern.specs.NfaTransitions.{HasStatesAfter, IsStateAfter, Leads, advances, initial, led_to, skips, stays}
use Rattle.lotos_pattern.specs.PlaceTransitions.{HasTransition, IsNextState}
use Rattle.lotos_pattern.specs.Transitions.{IsTransition}
use Rattle.lotos_pattern.specs.declared.element.Transition.{Transition}
use Rattle.lotos_pattern.specs.declared.element.Transition.TheVariants.{Reject, Advance, Stay}
use Rattle.lotos_pattern.proofs.PlaceTransitions.{later, no_label}

-- an element has one transition on a label
no_advance_and_stay : (e : Element) (l : Label) → IsTransition e l Advance → IsTransition e l Stay → ⊥
unfolding IsTransition
no_advance_and_stay e l ends goes_on = no_label l [] ((ends (l ∷ [])).0 ((goes_on (l ∷ [])).1 ((ends []).1 refl)))

-- if a label has the transition `Advance` at an element, it has no other there
only_advance : (t : Transition) (e : Element) (l : Label) → IsTransition e l t → IsTransition e l Advance → t ≡ Advance
unfolding IsTransition
only_advance Advance e l takes ends = refl
only_advance Stay e l takes ends = absurd (no_advance_and_stay e l ends takes)
only_advance Reject e l takes ends = absurd (takes [] ((ends []).1 refl))

-- if a label has the transition `Stay` at an element that can occur, it has no other there
only_stay : (strong : Bool) (t : Transition) (e : Element) (l : Label) → CanOccur strong e → IsTransition e l t → IsTransition e l Stay → t ≡ Stay
unfolding IsTransition
only_stay strong Advance e l some takes goes_on = absurd (no_advance_and_stay e l takes goes_on)
only_stay strong Stay e l some takes goes_on = refl
only_stay strong Reject e l some takes goes_on = absurd (takes some.0 ((goes_on some.0).1 some.1))

-- a label leads on from the state of an element alone
led_within : (p : List Element) (l : Label) (j k : ℕ) → Leads p l j k → j < length p
led_within p l _ _ (advances {j = j} {e = e} here takes) = slice_get_within p j e here
led_within p l _ _ (stays {j = j} {e = e} here takes) = slice_get_within p j e here
led_within p l _ _ (skips {j = j} {e = e} here empty rest) = slice_get_within p j e here

-- how a label leads on from the state of this element
data Led (p : List Element) (l : Label) (e : Element) (j k : ℕ) : Type 0 where
  advanced : IsTransition e l Advance → k ≡ j + 1 → Led p l e j k
  stayed : IsTransition e l Stay → k ≡ j → Led p l e j k
  skipped : Segment e [] → Leads p l (j + 1) k → Led p l e j k

-- two elements that one reading gives are the same
same_element : (e f : Element) (read : Option Element) → read ≡ Some e → read ≡ Some f → e ≡ f
same_element e f read is too = cc

-- if a label leads from the state `j` to `k`, it leads there in one of these ways from the element at `j`
led : (p : List Element) (l : Label) (j k : ℕ) → Leads p l j k → (e : Element) → slice_get p j ≡ Some e → Led p l e j k
led p l _ _ (advances {j = j} {e = f} is takes) e here = advanced (subst (λ x. IsTransition x l Advance) (same_element f e (slice_get p j) is here) takes) refl
led p l _ _ (stays {j = j} {e = f} is takes) e here = stayed (subst (λ x. IsTransition x l Stay) (same_element f e (slice_get p j) is here) takes) refl
led p l _ _ (skips {j = j} {e = f} is empty rest) e here = skipped (subst (λ x. Segment x []) (same_element f e (slice_get p j) is here) empty) rest

-- the label leads to the state from some state of the place
abbrev pub LeadsFrom : List Element → Place → Label → ℕ → Type 0
LeadsFrom p from l k = (j : ℕ) × HasState from j × Leads p l j k

-- the label leads to the states of `onward` from those before `k`, which is reached if an element is there
pub record IsWalked (p : List Element) (from : Place) (l : Label) (k : ℕ) (onward : Place) : Type 0 where
  pub reachable : k < length p → (n : ℕ) → Leads p l k n → LeadsFrom p from l n
  pub sound : (n : ℕ) → HasState onward n → LeadsFrom p from l n
  pub complete : (n j : ℕ) → HasState from j → Leads p l j n → HasState onward n ⊎ (Leads p l k n ⊎ (k < j))

-- from the first state on
pub walk_begins : (p : List Element) (from : Place) (l : Label) (onward : Place) (first : Option ℕ) (end : ℕ) → length p ≤ end →
    ((k : ℕ) → HasState onward k → ⊥) →
    MatchOption first ((k : ℕ) → 0 ≤ k → HasState from k → ⊥) (IsFirstState from 0) → IsWalked p from l (unwrap_or first end) onward
walk_begins p from l onward None end long none nowhere = record {
  reachable = λ h. absurd (omega arith);
  sound = λ n has. absurd (none n has);
  complete = λ n j has lead. absurd (nowhere j (omega arith) has);
}
walk_begins p from l onward (Some k) end long none first = record {
  reachable = λ h n lead. (k, first.has, lead);
  sound = λ n has. absurd (none n has);
  complete = λ n j has lead. elim (cases_lt j k) [
    | inl h ↦ absurd (first.none_before j (omega arith) h has)
    | inr far ↦ inr (elim (later k j far) [ inl same ↦ inl (subst (λ i. Leads p l i n) same lead) | inr h ↦ inr (omega arith) ])
  ];
}

-- after the last element no label leads on
pub walk_ends : (p : List Element) (from : Place) (l : Label) (k : ℕ) (onward : Place) → length p ≤ k → IsWalked p from l k onward → (n : ℕ) →
    HasState onward n ↔ LeadsFrom p from l n
walk_ends p from l k onward past w n = (
  w.sound n,
  λ m. elim (w.complete n m.0 m.1 m.2) [
    | inl done ↦ done
    | inr (inl rest) ↦ absurd (let within = led_within p l k n rest in omega arith)
    | inr (inr far) ↦ absurd (let within = led_within p l m.0 n m.2 in omega arith)
  ],
)

-- a place that gains the state of a transition keeps its states
keeps : (t : Transition) (k : ℕ) (old new : Place) → HasTransition t k old new → (n : ℕ) → HasState old n → HasState new n
keeps Advance k old new marks n has = (marks n).1 (inl has)
keeps Stay k old new marks n has = (marks n).1 (inl has)
keeps Reject k old new marks n has = (marks n).1 has

module _ (strong : Bool) (p : List Element) (from : Place) (l : Label) (k : ℕ) (e : Element) (here : slice_get p k ≡ Some e) (occurs : CanOccur strong e) where
  -- what a place gains is where the label leads
  gains : (t : Transition) (old new : Place) → IsTransition e l t → HasTransition t k old new → (n : ℕ) → HasState new n → HasState old n ⊎ Leads p l k n
  gains Advance old new takes marks n has = elim ((marks n).0 has) [
    | inl before ↦ inl before
    | inr same ↦ inr
        (subst (λ i. Leads p l k i) (sym same) (advances here takes))
  ]
  gains Stay old new takes marks n has = elim ((marks n).0 has) [
    | inl before ↦ inl before
    | inr same ↦ inr
        (subst (λ i. Leads p l k i) (sym same) (stays here takes))
  ]
  gains Reject old new takes marks n has = inl ((marks n).0 has)

  -- if the transition is `Advance`, the new place has the state after `k`
  to_next : (t : Transition) (old new : Place) → HasTransition t k old new → t ≡ Advance → HasState new (k + 1)
  to_next t old new marks is = let own = subst (λ u. HasTransition u k old new) is marks in (own (k + 1)).1 (inr refl)

  -- if the transition is `Stay`, the new place has the state `k`
  to_same : (t : Transition) (old new : Place) → HasTransition t k old new → t ≡ Stay → HasState new k
  to_same t old new marks is = let own = subst (λ u. HasTransition u k old new) is marks in (own k).1 (inr refl)

  -- where the label leads from the state, the place gains the state or the label leads there from the next one
  leaves : (t : Transition) (end n : ℕ) (old new : Place) → IsTransition e l t → HasTransition t k old new → IsNextState e from k end n → (m : ℕ) →
      Led p l e k m →
      HasState new m ⊎ Leads p l n m
  leaves t end n old new takes marks next m (advanced ends same) = inl (subst (HasState new) (sym same)
      (to_next t old new marks (only_advance t e l takes ends)))
  leaves t end n old new takes marks next m (stayed goes_on same) = inl
      (subst (HasState new) (sym same) (to_same t old new marks (only_stay strong t e l occurs takes goes_on)))
  leaves t end n old new takes marks next m (skipped empty rest) = inr (subst (λ i. Leads p l i m) (sym (next.passes empty)) rest)

  -- a reached element takes the label or is skipped
  pub walked : (t : Transition) (end n : ℕ) (old new : Place) → k < length p → length p ≤ end → IsWalked p from l k old → IsTransition e l t →
      HasTransition t k old new →
      IsNextState e from k end n → IsWalked p from l n new
  walked t end n old new within long w takes marks next = record {
    reachable = λ h m lead. elim (next.reached (omega arith)) [
      | inl (empty, same) ↦ w.reachable within m (skips here empty (subst (λ i. Leads p l i m) same lead))
      | inr has ↦ (n, has, lead)
    ];
    sound = λ m has. elim (gains t old new takes marks m has) [
      | inl before ↦ w.sound m before
      | inr lead ↦ w.reachable within m lead
    ];
    complete = λ m j has lead. elim (w.complete m j has lead) [
      | inl done ↦ inl (keeps t k old new marks m done)
      | inr (inl rest) ↦ elim (leaves t end n old new takes marks next m (led p l k m rest e here)) [
        | inl done ↦ inl done
        | inr onward ↦ inr (inl onward)
      ]
      | inr (inr far) ↦ inr (elim (later n j (next.skips_none j far has)) [
        | inl same ↦ inl (subst (λ i. Leads p l i m) same lead)
        | inr h ↦ inr (omega arith)
      ])
    ];
  }

-- a state after a sequence, by the last label
data Ended (p : List Element) (s : List Label) (k : ℕ) : Type 0 where
  at_start : s ≡ [] → k ≡ 0 → Ended p s k
  after_label : (r : List Label) (l : Label) (j : ℕ) → s ≡ r ++ l ∷ [] → IsStateAfter p r j → Leads p l j k → Ended p s k

-- a state after a sequence is the one at the start, or one to which the last label leads
ended : (p : List Element) (s : List Label) (k : ℕ) → IsStateAfter p s k → Ended p s k
ended p _ _ initial = at_start refl refl
ended p _ _ (led_to {r = r} {l = l} {j = j} before lead) = after_label r l j refl before lead

-- a sequence with a label at its end is not empty
not_empty : (r : List Label) (l : Label) → r ++ l ∷ [] ≡ [] → ⊥
not_empty [] l e = cc
not_empty (x ∷ r) l e = cc

-- after the empty sequence 0 is the only state
first_state : (p : List Element) (k : ℕ) → Ended p [] k → k ≡ 0
first_state p k (at_start none first) = first
first_state p k (after_label r l j cut before lead) = absurd (not_empty r l (sym cut))

-- before the first label
pub states_begin : (p : Pattern) (none place : Place) → ((k : ℕ) → HasState none k → ⊥) → ((k : ℕ) → HasState place k ↔ (HasState none k ⊎ (k ≡ 0))) →
    HasStatesAfter p [] place
states_begin p none place bare has k = (
  λ h. elim ((has k).0 h) [
    | inl before ↦ absurd (bare k before)
    | inr first ↦ subst (IsStateAfter p.elements []) (sym first) initial
  ],
  λ h. (has k).1 (inr (first_state p.elements k (ended p.elements [] k h))),
)

module _ (p : Pattern) (r : List Label) (l : Label) (place onward : Place) (stands : HasStatesAfter p r place) where
  -- to each state after `r` and then the label, the label leads from some state of the place of `r`
  last_led : (k : ℕ) → Ended p.elements (r ++ l ∷ []) k → LeadsFrom p.elements place l k
  last_led k (at_start none first) = absurd (not_empty r l none)
  last_led k (after_label q m j cut before lead) =
      let same = same_from_push q r m l (sym cut) in
      (j, (stands j).1 (subst (λ s. IsStateAfter p.elements s j) same.0 before), subst (λ x. Leads p.elements x j k) same.1 lead)

  -- after one more label
  pub states_step : ((k : ℕ) → HasState onward k ↔ LeadsFrom p.elements place l k) → HasStatesAfter p (r ++ l ∷ []) onward
  states_step exact k = (
    λ h. let from = (exact k).0 h in led_to ((stands from.0).0 from.1) from.2,
    λ h. (exact k).1 (last_led k (ended p.elements (r ++ l ∷ []) k h)),
  )
