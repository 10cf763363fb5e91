-- The place that a label leads to from the states of another.
use Rattle.std.proofs.Common.{◌≡◌, ℕ, zero, suc, ◌+◌, ◌<◌, ◌≤◌, ◌⊎◌, inl, inr, Option, None, Some, List, [], ◌∷◌, ◌++◌, length, drop, refl, sym, ap, subst, ◌∙◌, arith}
use Rattle.std.specs.Prelude.{MatchOption, unwrap_or}
use Rattle.std.proofs.lemmas.Bool.{cases_lt}
use Rattle.std.proofs.lemmas.List.{drop_all}
use Rattle.lotos_pattern.specs.PatternLabels.{Label}
use Rattle.lotos_pattern.specs.Patterns.{Element, IsJoin, Segment}
use Rattle.lotos_pattern.specs.NfaStates.{HasState, IsFirstState, Place}
use Rattle.lotos_pattern.specs.PlaceTransitions.{HasTransition, IsNextState, CanContinue, IsSuccessorPlace}
use Rattle.lotos_pattern.specs.Transitions.{IsTransition}
use Rattle.lotos_pattern.specs.declared.element.Transition.{Transition}
use Rattle.lotos_pattern.specs.declared.element.Transition.TheVariants.{Reject, Advance, Stay}

-- how a sequence with a label begins: the element takes nothing, or a segment that begins with the label
data Split (e : Element) (p : List Element) (l : Label) (s : List Label) : Type 0 where
  passed_over : Segment e [] → IsJoin Segment p (l ∷ s) → Split e p l s
  begun : (front remainder : List Label) → Segment e (l ∷ front) → IsJoin Segment p remainder → s ≡ front ++ remainder → Split e p l s

-- if a sequence with a label at its beginning has segments for an element and the rest, it begins in one of these ways
split : (e : Element) (p : List Element) (l : Label) (s : List Label) → IsJoin Segment (e ∷ p) (l ∷ s) → Split e p l s
split e p l s ([], rest, segment, j, cut) = passed_over segment (subst (IsJoin Segment p) (sym cut) j)
split e p l s (x ∷ front, rest, segment, j, cut) =
    let same : x ≡ l = cc in
    begun front rest (subst (λ v. Segment e (v ∷ front)) same segment) j cc

-- what may follow the label where a segment begins with it
abbrev After : Transition → Element → List Element → List Label → Type 0
After Advance e p s = IsJoin Segment p s
After Stay e p s = IsJoin Segment (e ∷ p) s
After Reject e p s = ⊥

-- what follows a label that begins a segment of an element is what may follow it by its transition there
taken : (t : Transition) (e : Element) (p : List Element) (l : Label) (s front remainder : List Label) → IsTransition e l t → Segment e (l ∷ front) →
    IsJoin Segment p remainder → s ≡ front ++ remainder → After t e p s
unfolding IsTransition
taken Advance e p l s front remainder takes segment j cut =
    let none : front ≡ [] = (takes front).0 segment in
    subst (IsJoin Segment p) (sym (cut ∙ ap (λ f. f ++ remainder) none)) j
taken Stay e p l s front remainder takes segment j cut = (front, remainder, (takes front).0 segment, j, cut)
taken Reject e p l s front remainder takes segment j cut = takes front segment

-- a label and what may follow it by its transition at an element have segments for the element and the rest
untaken : (t : Transition) (e : Element) (p : List Element) (l : Label) (s : List Label) → IsTransition e l t → After t e p s → IsJoin Segment (e ∷ p) (l ∷ s)
unfolding IsTransition
untaken Advance e p l s takes j = (l ∷ [], s, (takes []).1 refl, j, refl)
untaken Stay e p l s takes (front, remainder, segment, j, cut) = (l ∷ front, remainder, (takes front).1 segment, j, ap (λ rest. l ∷ rest) cut)
untaken Reject e p l s takes j = absurd j

-- the place has the states to which the label leads from those before `k`, which is reached if there is an element
pub record IsPassing (p : List Element) (from : Place) (l : Label) (k : ℕ) (onward : Place) : Type 0 where
  pub reachable : k < length p → (s : List Label) → IsJoin Segment (drop k p) s → CanContinue p from s
  pub sound : (s : List Label) → CanContinue p onward s → CanContinue p from (l ∷ s)
  pub complete : (s : List Label) (j : ℕ) → HasState from j → IsJoin Segment (drop j p) (l ∷ s) →
      CanContinue p onward s ⊎ (IsJoin Segment (drop k p) (l ∷ s) ⊎ (k < j))

-- a number that is at least `k` is `k`, or at least `k + 1`
pub later : (k j : ℕ) → k ≤ j → (j ≡ k) ⊎ (k + 1 ≤ j)
later zero zero h = inl refl
later zero (suc j) h = inr (omega arith)
later (suc k) zero h = absurd (omega arith)
later (suc k) (suc j) h = elim (later k j (omega arith)) [ inl e ↦ inl (ap suc e) | inr g ↦ inr (omega arith) ]

-- a sequence with a label at its beginning is not empty
pub no_label : (l : Label) (s : List Label) → l ∷ s ≡ [] → ⊥
no_label l s e = cc

-- from the first state on
pub passing_begins : (p : List Element) (from : Place) (l : Label) (onward : Place) (first : Option ℕ) (end : ℕ) → length p ≤ end →
    ((k : ℕ) → HasState onward k → ⊥) →
    MatchOption first ((k : ℕ) → 0 ≤ k → HasState from k → ⊥) (IsFirstState from 0) → IsPassing p from l (unwrap_or first end) onward
passing_begins p from l onward None end long none nowhere = record {
  reachable = λ h. absurd (omega arith);
  sound = λ s m. absurd (none m.state m.has);
  complete = λ s j has m. absurd (nowhere j (omega arith) has);
}
passing_begins p from l onward (Some k) end long none first = record {
  reachable = λ h s m. record { state = k; has = first.has; joined = m };
  sound = λ s m. absurd (none m.state m.has);
  complete = λ s j has m. elim (cases_lt j k) [
    | inl h ↦ absurd (first.none_before j (omega arith) h has)
    | inr far ↦ inr (elim (later k j far) [ inl same ↦ inl (subst (λ i. IsJoin Segment (drop i p) (l ∷ s)) same m) | inr h ↦ inr (omega arith) ])
  ];
}

-- after the last element no label follows
pub passing_ends : (p : List Element) (from : Place) (l : Label) (k : ℕ) (onward : Place) → length p ≤ k → IsPassing p from l k onward →
    IsSuccessorPlace p from l onward
passing_ends p from l k onward past i s =
    let none : (j : ℕ) → k ≤ j → IsJoin Segment (drop j p) (l ∷ s) → ⊥ = λ j far m. no_label l s
    (subst (λ q. IsJoin Segment q (l ∷ s)) (drop_all j p (omega arith)) m) in (
      λ m. elim (i.complete s m.state m.has m.joined) [
        | inl done ↦ done
        | inr (inl rest) ↦ absurd (none k (omega arith) rest)
        | inr (inr far) ↦ absurd (none m.state (omega arith) m.joined)
      ],
      i.sound s,
    )

-- the continuations of a place to which a state was added: those of the old place, and those after the element's transition
record Marked (t : Transition) (p : List Element) (k : ℕ) (e : Element) (old new : Place) : Type 0 where
  keeps : (s : List Label) → CanContinue p old s → CanContinue p new s
  adds : (s : List Label) → After t e (drop (k + 1) p) s → CanContinue p new s
  only : (s : List Label) → CanContinue p new s → CanContinue p old s ⊎ After t e (drop (k + 1) p) s

-- a place that gains the state of a transition has the old continuations and those after the transition, no others
marked : (t : Transition) (p : List Element) (k : ℕ) (e : Element) (old new : Place) → drop k p ≡ e ∷ drop (k + 1) p → HasTransition t k old new →
    Marked t p k e old new
marked Advance p k e old new here marks = record {
  keeps = λ s m. record { state = m.state; has = (marks m.state).1 (inl m.has); joined = m.joined };
  adds = λ s j. record { state = k + 1; has = (marks (k + 1)).1 (inr refl); joined = j };
  only = λ s m. elim ((marks m.state).0 m.has) [
    | inl h ↦ inl (record { state = m.state; has = h; joined = m.joined })
    | inr same ↦ inr (subst (λ i. IsJoin Segment (drop i p) s) same m.joined)
  ];
}
marked Stay p k e old new here marks = record {
  keeps = λ s m. record { state = m.state; has = (marks m.state).1 (inl m.has); joined = m.joined };
  adds = λ s j. record { state = k; has = (marks k).1 (inr refl); joined = subst (λ q. IsJoin Segment q s) (sym here) j };
  only = λ s m. elim ((marks m.state).0 m.has) [
    | inl h ↦ inl (record { state = m.state; has = h; joined = m.joined })
    | inr same ↦ inr (subst (λ q. IsJoin Segment q s) here (subst (λ i. IsJoin Segment (drop i p) s) same m.joined))
  ];
}
marked Reject p k e old new here marks = record {
  keeps = λ s m. record { state = m.state; has = (marks m.state).1 m.has; joined = m.joined };
  adds = λ s j. absurd j;
  only = λ s m. inl (record { state = m.state; has = (marks m.state).0 m.has; joined = m.joined });
}

module _ (p : List Element) (from : Place) (l : Label) (k : ℕ) (e : Element) (here : drop k p ≡ e ∷ drop (k + 1) p) where
  -- a reached element takes the label or is passed over
  pub passed : (t : Transition) (end n : ℕ) (old new : Place) → k < length p → length p ≤ end → IsPassing p from l k old → IsTransition e l t →
      HasTransition t k old new →
      IsNextState e from k end n → IsPassing p from l n new
  passed t end n old new within long i takes marks next =
      let m = marked t p k e old new here marks in
      let on : (s : List Label) → IsJoin Segment (e ∷ drop (k + 1) p) s →
      CanContinue p from s = λ s j. i.reachable within s (subst (λ q. IsJoin Segment q s) (sym here) j) in record {
        reachable = λ h s j. elim (next.reached (omega arith)) [
          | inl (empty, same) ↦ on s ([], s, empty, subst (λ i. IsJoin Segment (drop i p) s) same j, refl)
          | inr has ↦ record { state = n; has = has; joined = j }
        ];
        sound = λ s to. elim (m.only s to) [
          | inl before ↦ i.sound s before
          | inr after ↦ on (l ∷ s) (untaken t e (drop (k + 1) p) l s takes after)
        ];
        complete = λ s j has to. elim (i.complete s j has to) [
          | inl done ↦ inl (m.keeps s done)
          | inr (inl rest) ↦ elim (split e (drop (k + 1) p) l s (subst (λ q. IsJoin Segment q (l ∷ s)) here rest)) [
            | passed_over none others ↦ inr (inl (subst (λ i. IsJoin Segment (drop i p) (l ∷ s)) (sym (next.passes none)) others))
            | begun front remainder segment others cut ↦ inl (m.adds s (taken t e (drop (k + 1) p) l s front remainder takes segment others cut))
          ]
          | inr (inr far) ↦ inr (elim (later n j (next.skips_none j far has)) [
            | inl same ↦ inl (subst (λ i. IsJoin Segment (drop i p) (l ∷ s)) same to)
            | inr h ↦ inr (omega arith)
          ])
        ];
      }

-- the next state, which is reached after an element that may be empty
pub reached_over : (e : Element) (from : Place) (k end : ℕ) → Segment e [] → IsNextState e from k end (k + 1)
reached_over e from k end empty = record {
  onward = omega arith;
  reached = λ h. inl (empty, refl);
  passes = λ h. refl;
  skips_none = λ j far has. omega arith;
}

-- and after one that may not
pub reached_next : (e : Element) (from : Place) (k end : ℕ) (first : Option ℕ) → k < end → (Segment e [] → ⊥) →
    MatchOption first ((j : ℕ) → k + 1 ≤ j → HasState from j → end ≤ j) (IsFirstState from (k + 1)) → IsNextState e from k end (unwrap_or first end)
reached_next e from k end None within needed none = record {
  onward = within;
  reached = λ h. absurd (omega arith);
  passes = λ empty. absurd (needed empty);
  skips_none = λ j far has. none j (omega arith) has;
}
reached_next e from k end (Some n) within needed first = let remainder = first.at_least in record {
  onward = omega arith;
  reached = λ h. inr first.has;
  passes = λ empty. absurd (needed empty);
  skips_none = λ j far has. elim (cases_lt j n) [ inl h ↦ absurd (first.none_before j (omega arith) h has) | inr h ↦ h ];
}
