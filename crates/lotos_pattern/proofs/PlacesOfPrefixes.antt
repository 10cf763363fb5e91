-- The places of sequences.
use Rattle.std.proofs.Common.{◌≡◌, ℕ, ◌⊎◌, inl, inr, Bool, List, [], ◌∷◌, ◌++◌, drop, refl, sym, subst, append_assoc}
use Rattle.std.specs.Prelude.{◌↔◌, All}
use Rattle.std.proofs.lemmas.List.{append-nil}
use Rattle.std.proofs.lemmas.List.Elements.{All-append, All-cons, All-drop, All-head, All-nil, All-tail}
use Rattle.lotos_pattern.specs.PatternLabels.{Label}
use Rattle.lotos_pattern.specs.Patterns.{Element, IsJoin, IsObservable, Matches, Pattern, Segment, Viable}
use Rattle.lotos_pattern.specs.NfaStates.{CanFollow, HasState, Place}
use Rattle.lotos_pattern.specs.Places.{IsPlaceOf}
use Rattle.lotos_pattern.specs.ElementView.{CanOccur}
use Rattle.lotos_pattern.specs.PlaceTransitions.{CanContinue, IsSuccessorPlace}

-- a pattern whose labels can occur matches some sequence
pub some_sequence : (p : Pattern) (elements : List Element) → All (CanOccur p.strong) elements →
    (s : List Label) × IsJoin Segment elements s × All (IsObservable p.strong) s
some_sequence p [] h = ([], refl, All-nil (IsObservable p.strong))
some_sequence p (e ∷ es) h =
    let first = All-head (CanOccur p.strong) e es h in
    let rest = some_sequence p es (All-tail (CanOccur p.strong) e es h) in (
      first.0 ++ rest.0,
      (first.0, rest.0, first.1, rest.1, refl),
      All-append (IsObservable p.strong) first.0 rest.0 first.2 rest.2,
    )

-- a pattern whose elements can all occur matches some sequence
pub some_matched : (p : Pattern) → All (CanOccur p.strong) p.elements → Viable p []
some_matched p h = let some = some_sequence p p.elements h in (some.0, record { joined = some.1; observable = some.2 })

-- what follows at a place is where it leads, of labels that can be observed
follows : (p : Pattern) (place : Place) (s : List Label) → CanContinue p.elements place s → All (IsObservable p.strong) s → CanFollow p place s
follows p place s m o = record { state = m.state; has = m.has; matched = record { joined = m.joined; observable = o } }

-- what can follow at a place has a segment for each of the elements left at some state of the place
leads : (p : Pattern) (place : Place) (s : List Label) → CanFollow p place s → CanContinue p.elements place s
leads p place s m = record { state = m.state; has = m.has; joined = m.matched.joined }

-- the place before any label
pub begins : (p : Pattern) (none place : Place) → ((k : ℕ) → HasState none k → ⊥) → ((k : ℕ) → HasState place k ↔ (HasState none k ⊎ (k ≡ 0))) →
    IsPlaceOf p [] place
unfolding IsPlaceOf
begins p none place bare has s = (
  λ m. record { state = 0; has = (has 0).1 (inr refl); matched = record { joined = m.joined; observable = m.observable } },
  λ m. elim ((has m.state).0 m.has) [
    | inl h ↦ absurd (bare m.state h)
    | inr first ↦ record { joined = subst (λ k. IsJoin Segment (drop k p.elements) s) first m.matched.joined; observable = m.matched.observable }
  ],
)

module _ (p : Pattern) (r : List Label) (l : Label) (place onward : Place) where
  -- a label that can be observed leads to the next place
  stepped : IsObservable p.strong l → IsSuccessorPlace p.elements place l onward → IsPlaceOf p r place → IsPlaceOf p (r ++ l ∷ []) onward
  unfolding IsPlaceOf
  stepped seen leads_on stands s =
      let regrouped : (r ++ l ∷ []) ++ s ≡ r ++ (l ∷ s) = append_assoc r (l ∷ []) s in (
        λ m.
            let before = (stands (l ∷ s)).0 (subst (Matches p) regrouped m) in
            follows p onward s ((leads_on s).0 (leads p place (l ∷ s) before)) (All-tail (IsObservable p.strong) l s before.matched.observable),
        λ m.
            let before = (leads_on s).1 (leads p onward s m) in
            subst (Matches p) (sym regrouped)
            ((stands (l ∷ s)).1 (follows p place (l ∷ s) before (All-cons (IsObservable p.strong) l s seen m.matched.observable))),
      )

  -- a place with a state is that of a sequence that some sequence completes to a match
  alive : All (CanOccur p.strong) p.elements → (k : ℕ) → HasState onward k → IsPlaceOf p (r ++ l ∷ []) onward → Viable p (r ++ l ∷ [])
  unfolding IsPlaceOf
  alive occur k has stands =
      let some = some_sequence p (drop k p.elements) (All-drop (CanOccur p.strong) k p.elements occur) in
      (some.0, (stands some.0).1 (record { state = k; has = has; matched = record { joined = some.1; observable = some.2 } }))

  -- if the label leads to a place with a state, the longer prefix can still match, and that place is its place
  pub goes_on : All (CanOccur p.strong) p.elements → IsObservable p.strong l → IsSuccessorPlace p.elements place l onward → (k : ℕ) × HasState onward k →
      IsPlaceOf p r place →
      Viable p (r ++ l ∷ []) × IsPlaceOf p (r ++ l ∷ []) onward
  goes_on occur seen leads_on (k, has) stands = let next = stepped seen leads_on stands in (alive occur k has next, next)

  -- where the label leads nowhere, no sequence goes on so
  pub stuck : IsSuccessorPlace p.elements place l onward → ((k : ℕ) → HasState onward k → ⊥) → IsPlaceOf p r place → Viable p (r ++ l ∷ []) → ⊥
  unfolding IsPlaceOf
  stuck leads_on none stands (s, m) =
      let before = (stands (l ∷ s)).0 (subst (Matches p) (append_assoc r (l ∷ []) s) m) in
      let after = (leads_on s).0 (leads p place (l ∷ s) before) in
      none after.state after.has

-- if all labels can be observed, so can those after others
last_seen : (strong : Bool) (r : List Label) (l : Label) (s : List Label) → All (IsObservable strong) (r ++ l ∷ s) → IsObservable strong l
last_seen strong [] l s h = All-head (IsObservable strong) l s h
last_seen strong (x ∷ r) l s h = last_seen strong r l s (All-tail (IsObservable strong) x (r ++ l ∷ s) h)

-- a label that cannot be observed follows nowhere
pub unseen : (p : Pattern) (r : List Label) (l : Label) → (IsObservable p.strong l → ⊥) → Viable p (r ++ l ∷ []) → ⊥
unseen p r l hidden (s, m) = hidden (last_seen p.strong r l s (subst (All (IsObservable p.strong)) (append_assoc r (l ∷ []) s) m.observable))

module _ (p : Pattern) (r : List Label) (place : Place) (stands : IsPlaceOf p r place) where
  -- where nothing more need follow, the sequence is matched
  pub matched : CanContinue p.elements place [] → Matches p r
  unfolding IsPlaceOf
  matched m = subst (Matches p) (append-nil r) ((stands []).1 (follows p place [] m (All-nil (IsObservable p.strong))))

  -- where something must follow, it is not
  pub unmatched : (CanContinue p.elements place [] → ⊥) → Matches p r → ⊥
  unfolding IsPlaceOf
  unmatched none m = none (leads p place [] ((stands []).0 (subst (Matches p) (sym (append-nil r)) m)))
