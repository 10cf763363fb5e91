-- What is found out about behaviours, and the comparisons of two of them that have no line.
use Rattle.std.proofs.Common.{◌≡◌, ◌∙◌, ◌≢◌, Bool, true, false, List, [], ◌∷◌, ◌++◌, ap, inl, inr, refl, subst, sym}
use Rattle.lotos_listing.specs.Derivations.{Derives, observed}
use Rattle.lotos_listing.specs.Order.{Label, internal}
use Rattle.lotos_listing.proofs.Labels.{is_internal, observed_inside, observed_nil, observed_seen}
use Rattle.lotos_sets.specs.Behaviours.{Behaviour, CanBeObserved}
use Rattle.lotos_compare.specs.Comparisons.{AreAlike, AreFailuresIncluded, AreLivelocksIncluded, IsTraceIncluded, StepOf, observations_of}
use Rattle.lotos_compare.specs.Differences.{ComparisonKind, Difference, Differs}
use Rattle.lotos_compare.specs.Differences as d
use Rattle.lotos_compare.proofs.Inclusions.{AreObservations, differs_in_none, differs_not, first_differs, first_goes_on, none_alone, none_livelocks, none_refused}
use Rattle.lotos_compare.proofs.Inclusions.{second_differs, second_goes_on}

-- the empty list is none with a last item
no_last : (s : List Label) (l : Label) → [] ≡ s ++ l ∷ [] → ⊥
no_last [] l e = cc
no_last (x ∷ s) l e = cc

-- a beginning of the run, and what is observed of it
abbrev IsCutAt : Bool → List Label → List Label → Type 0
IsCutAt strong run s = (begun : List Label) × (rest : List Label) × (run ≡ begun ++ rest) × (observed strong begun ≡ s)

-- a run of which a last label is observed begins with one of which the labels before it are
cut : (strong : Bool) (run s : List Label) (l : Label) → observed strong run ≡ s ++ l ∷ [] → IsCutAt strong run s
cut true run s l e = (s, l ∷ [], e, refl)
cut false [] s l e = absurd (no_last s l e)
cut false (x ∷ run) s l e = elim (is_internal x) [
  | inl inside ↦
      let (begun, rest, is, seen) = cut false run s l (sym (observed_inside x run inside) ∙ e) in
      (x ∷ begun, rest, ap (λ v. x ∷ v) is, observed_inside x begun inside ∙ seen)
  | inr outside ↦ by s (sym (observed_seen x run outside) ∙ e) outside (λ r. cut false run r l)
]
  where
    by : (s : List Label) → x ∷ observed false run ≡ s ++ l ∷ [] → x ≢ internal →
        ((r : List Label) → observed false run ≡ r ++ l ∷ [] → IsCutAt false run r) → IsCutAt false (x ∷ run) s
    by [] e outside more = ([], x ∷ run, refl, observed_nil false)
    by (y ∷ s) e outside more =
        let head : x ≡ y = cc in
        let tail : observed false run ≡ s ++ l ∷ [] = cc in
        let (begun, rest, is, seen) = more s tail in
        (x ∷ begun, rest, ap (λ v. x ∷ v) is, observed_seen x begun outside ∙ (λ i. head i ∷ seen i))

-- a derivation begins with one by the beginning of its run
begun_by : {X : Type 0} (Step : X → Label → X → Type 0) (begun rest : List Label) (t u : X) → Derives Step t (begun ++ rest) u →
    (v : X) × Derives Step t begun v
begun_by Step [] rest t u derives = (t, refl)
begun_by Step (l ∷ begun) rest t u (w, step, derives) = let (v, there) = begun_by Step begun rest w u derives in (v, (w, step, there))

module _ (b : Behaviour) where
  -- what an observed sequence begins with is observed
  observed_before : (s : List Label) (l : Label) → CanBeObserved b (s ++ l ∷ []) → CanBeObserved b s
  observed_before s l (run, t, derives, seen) =
      let (begun, rest, is, same) = cut b.strong run s l seen in
      let (v, there) = begun_by (StepOf b) begun rest b.start t (subst (λ r. Derives (StepOf b) b.start r t) is derives) in
      (begun, v, there, same)

  -- the observations of a behaviour are those of a system
  pub are_observations : AreObservations (observations_of b)
  are_observations = record {
    begins = ([], b.start, refl, observed_nil b.strong);
    shorter = observed_before;
    offered = λ s labels (run, t, derives, seen, offers). (run, t, derives, seen);
    ascends = λ s labels (run, t, derives, seen, offers). offers.ascends;
    turned = λ s (run, t, derives, seen, turns). (run, t, derives, seen);
  }

module _ (b c : Behaviour) where
  -- without a line, no sequence is observed of the first alone
  pub traces_of : (kind : ComparisonKind) → AreAlike b c kind → IsTraceIncluded b c
  traces_of kind none = none_alone (observations_of b) (observations_of c) (are_observations b) (are_observations c)
      (first_goes_on (observations_of b) (observations_of c) kind none)

  -- nor of the second, if it is asked about
  pub traces_back : (kind : ComparisonKind) → kind.within ≡ false → AreAlike b c kind → IsTraceIncluded c b
  traces_back kind both none = none_alone (observations_of c) (observations_of b) (are_observations c) (are_observations b)
      (second_goes_on (observations_of b) (observations_of c) kind none both)

  -- all that can be found out about the first can be found out about the second
  abbrev pub IsIncluded : Type 0
  IsIncluded = IsTraceIncluded b c × AreFailuresIncluded b c × AreLivelocksIncluded b c

  -- if one differs in nothing, it is included
  included : ((s : List Label) (e : Difference) → Differs (observations_of b) (observations_of c) s e → ⊥) → IsIncluded
  included none = (
    none_alone (observations_of b) (observations_of c) (are_observations b) (are_observations c) (λ s l. none s (d.comes l)),
    none_refused (observations_of b) (observations_of c) (are_observations b) (are_observations c) none,
    none_livelocks (observations_of b) (observations_of c) (are_observations b) (are_observations c) none,
  )

  -- and the other way round
  differs : IsIncluded → (s : List Label) (e : Difference) → Differs (observations_of b) (observations_of c) s e → ⊥
  differs (traces, failures, turns) = differs_in_none (observations_of b) (observations_of c) traces failures turns

module _ (b c : Behaviour) where
  -- without a line of a comparison about refusals, the first is included in the second
  pub included_of : (kind : ComparisonKind) → kind.refusals ≡ true → AreAlike b c kind → IsIncluded b c
  included_of kind asked none = included b c (first_differs (observations_of b) (observations_of c) kind none asked)

  -- and the second in the first, if it is asked about
  pub included_back : (kind : ComparisonKind) → kind.within ≡ false → kind.refusals ≡ true → AreAlike b c kind → IsIncluded c b
  included_back kind both asked none = included c b (second_differs (observations_of b) (observations_of c) kind none both asked)

  -- if no sequence is observed of one alone, there is no line about labels
  pub no_label : (kind : ComparisonKind) → kind.refusals ≡ false → IsTraceIncluded b c → (kind.within ≡ false → IsTraceIncluded c b) → AreAlike b c kind
  no_label kind plain there back line is = by line.side line.difference is.side_asked is.difference_asked is.differs
    where
      by : (side : d.Side) (e : Difference) → d.IsSideAsked kind side → d.IsDifferenceAsked kind e →
          d.DiffersAt (observations_of b) (observations_of c) side line.sequence e → ⊥
      by d.first (d.comes l) asked kinds (shared, alone) = there (line.sequence ++ l ∷ []) alone
      by d.second (d.comes l) asked kinds (shared, alone) = back asked (line.sequence ++ l ∷ []) alone
      by side (d.refuses_all_but labels) asked kinds h = let never : true ≡ false = sym kinds ∙ plain in cc
      by side d.livelocks asked kinds h = let never : true ≡ false = sym kinds ∙ plain in cc

  -- if each that is asked about is included in the other, there is no line
  pub no_difference : (kind : ComparisonKind) → IsIncluded b c → (kind.within ≡ false → IsIncluded c b) → AreAlike b c kind
  no_difference kind there back line is = by line.side is.side_asked is.differs
    where
      by : (side : d.Side) → d.IsSideAsked kind side →
          d.DiffersAt (observations_of b) (observations_of c) side line.sequence line.difference → ⊥
      by d.first asked h = differs b c there line.sequence line.difference h
      by d.second asked h = differs c b (back asked) line.sequence line.difference h

-- a comparison of a behaviour with itself has no line
pub alike_itself : (b : Behaviour) (kind : ComparisonKind) → AreAlike b b kind
alike_itself b kind line is = by line.side is.differs
  where
    by : (side : d.Side) → d.DiffersAt (observations_of b) (observations_of b) side line.sequence line.difference → ⊥
    by d.first h = differs_not (observations_of b) line.sequence line.difference h
    by d.second h = differs_not (observations_of b) line.sequence line.difference h
