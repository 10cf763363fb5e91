-- The processes without a rank, in their order.
use Rattle.std.proofs.Common.{◌≡◌, ◌+◌, ◌<◌, ◌≤◌, ℕ, zero, suc, List, [], ◌∷◌, ◌++◌, Option, Some, None, length, drop, refl, inl, inr, arith}
use Rattle.std.proofs.Math.ListN.{drop_of_length-le}
use Rattle.std.proofs.lemmas.List.{append-nil}
use Rattle.std.specs.Prelude.{slice_get}
use Rattle.lotos_check.specs.NameLists.{In, none}
use Rattle.lotos_check.specs.Guard.{IsAscending}
use Rattle.lotos_check.specs.RankingSteps.{AreUnranked}
use Rattle.lotos_check.proofs.AscendingLists.{put_first}

-- the indices at which the list has no rank, if its first index is n
abbrev pub places : ℕ → List (Option ℕ) → List ℕ
places n [] = []
places n (None ∷ ranks) = n ∷ places (n + 1) ranks
places n (Some r ∷ ranks) = places (n + 1) ranks

-- each of the indices without a rank is the first index plus that of an item of the list that is `None`
from_place : (n p : ℕ) (ranks : List (Option ℕ)) → In p (places n ranks) →
    (k : ℕ) × (p ≡ n + k) × (slice_get ranks k ≡ Some None)
from_place n p [] i = elim i [ ]
from_place n p (None ∷ ranks) (inl e) = (0, omega arith, refl)
from_place n p (None ∷ ranks) (inr i) =
    let later = from_place (n + 1) p ranks i in let e = later.1 in (suc later.0, omega arith, later.2)
from_place n p (Some r ∷ ranks) i =
    let later = from_place (n + 1) p ranks i in let e = later.1 in (suc later.0, omega arith, later.2)

-- the first index plus that of an item of the list that is `None` is one of the indices without a rank
to_place : (n k p : ℕ) (ranks : List (Option ℕ)) → p ≡ n + k → slice_get ranks k ≡ Some None → In p (places n ranks)
to_place n k p [] e h = cc
to_place n zero p (None ∷ ranks) e h = inl (omega arith)
to_place n (suc k) p (None ∷ ranks) e h = inr (to_place (n + 1) k p ranks (omega arith) h)
to_place n zero p (Some r ∷ ranks) e h = cc
to_place n (suc k) p (Some r ∷ ranks) e h = to_place (n + 1) k p ranks (omega arith) h

-- the indices without a rank ascend
rises_places : (n : ℕ) (ranks : List (Option ℕ)) → IsAscending (places n ranks)
rises_places n [] = none
rises_places n (None ∷ ranks) =
    put_first ◌<◌ n (places (n + 1) ranks) (λ y i. let p = from_place (n + 1) y ranks i in let e = p.1 in omega arith)
    (rises_places (n + 1) ranks)
rises_places n (Some r ∷ ranks) = rises_places (n + 1) ranks

-- the indices without a rank are the processes without one, ascending
pub are_waiting : (set : List ℕ) (ranks : List (Option ℕ)) → set ≡ places 0 ranks → AreUnranked set ranks
are_waiting set ranks e = record {
  rises = rw e (rises_places 0 ranks);
  same = λ p. (
    λ i. let found = from_place 0 p ranks (rw e at i) in let at_ : p ≡ found.0 = omega (arith, found.1) in rw at_ found.2,
    λ h. rw e (to_place 0 p p ranks (omega arith) h),
  );
}

-- where the rest of the list is empty, what was found is all
pub places_end : (found : List ℕ) (n : ℕ) (ranks : List (Option ℕ)) → length ranks ≤ n →
    found ++ places n (drop n ranks) ≡ places 0 ranks → found ≡ places 0 ranks
places_end found n ranks h e =
    let nothing : drop n ranks ≡ [] = drop_of_length-le ranks h in
    let all : found ++ [] ≡ places 0 ranks = rw nothing at e in
    rw (append-nil found) at all
