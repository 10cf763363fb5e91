-- Comparisons of two behaviours: what is found out about each by derivations, and in which sense they are equal.
use Rattle.std.specs.Prelude.{◌≡◌, ◌↔◌, List, Bool}
use Rattle.lotos_check.specs.NameLists.{In}
use Rattle.lotos_store.specs.Terms.{Term}
use Rattle.lotos_listing.specs.Derivations.{Derives, observed}
use Rattle.lotos_listing.specs.Ends as ends
use Rattle.lotos_listing.specs.Order.{Label, internal}
use Rattle.lotos_listing.specs.PrefixWalk.{IsAscending}
use Rattle.lotos_listing.specs.Question.{PrintedStep}
use Rattle.lotos_sets.specs.Behaviours.{Behaviour, CanBeObserved}
use Rattle.lotos_compare.specs.Differences.{ComparisonKind, HasNoLine, IsFirstLine, IsLine, IsObservedAlone}
use Rattle.lotos_compare.specs.Differences.{IsRefusedAlone, Line, LivelocksAlone, Observations}

module _ (b : Behaviour) where
  -- a step of a term by a printed label
  abbrev pub StepOf : Term → Label → Term → Type 0
  StepOf = PrintedStep b.names b.processes

  -- some derivation that is observed as the sequence ends in a term of which `P` holds
  abbrev pub CanEndWith : (P : Term → Type 0) → List Label → Type 0
  CanEndWith P s = (run : List Label) × (t : Term) × Derives StepOf b.start run t × (observed b.strong run ≡ s) × P t

  -- the term has no internal step, and steps with exactly these labels, which ascend by their texts
  pub record OffersExactly (labels : List Label) (t : Term) : Type 0 where
    pub stable : (u : Term) → StepOf t internal u → ⊥
    pub ascends : IsAscending labels
    pub exact : (l : Label) → In l labels ↔ ((u : Term) × StepOf t l u)

  -- internal steps that never end begin at the term
  abbrev pub Livelocks : Term → Type 0
  Livelocks t = ends.Forever StepOf internal (λ l. ⊥) t

  -- what can be found out about the behaviour
  abbrev pub observations_of : Observations
  observations_of = record {
    Observed = CanBeObserved b;
    MayOffer = λ s labels. CanEndWith (OffersExactly labels) s;
    MayLivelock = CanEndWith Livelocks;
  }

module _ (b c : Behaviour) where
  -- no sequence can be observed of the first alone: trace inclusion
  abbrev pub IsTraceIncluded : Type 0
  IsTraceIncluded = (s : List Label) → IsObservedAlone (observations_of b) (observations_of c) s → ⊥

  -- after no sequence, the first alone may refuse some set of labels: inclusion of stable failures
  abbrev pub AreFailuresIncluded : Type 0
  AreFailuresIncluded = (s : List Label) (set : Label → Bool) →
      IsRefusedAlone (observations_of b) (observations_of c) s set → ⊥

  -- after no sequence, the first alone may do internal steps for ever
  abbrev pub AreLivelocksIncluded : Type 0
  AreLivelocksIncluded = (s : List Label) → LivelocksAlone (observations_of b) (observations_of c) s → ⊥

  -- a line of the comparison of the two
  abbrev pub IsLineOf : ComparisonKind → Line → Type 0
  IsLineOf = IsLine (observations_of b) (observations_of c)

  -- its first line
  abbrev pub IsFirstLineOf : ComparisonKind → Line → Type 0
  IsFirstLineOf = IsFirstLine (observations_of b) (observations_of c)

  -- the comparison of the two has no line
  abbrev pub AreAlike : ComparisonKind → Type 0
  AreAlike = HasNoLine (observations_of b) (observations_of c)
