-- What the ranking of processes returns.
use Rattle.std.specs.Prelude.{◌≡◌, ◌↔◌, ℕ, ◌+◌, ◌<◌, List, [], ◌∷◌, Option, Some, None, length, slice_get}
use Rattle.lotos_check.specs.NameLists.{In}
use Rattle.lotos_check.specs.Flat.{FlatProcess}
use Rattle.lotos_check.specs.Guard.{CallsUnguarded, IsLargestUnguardedSet, IsAscending}
use Rattle.lotos_check.specs.Acceptance.{AreRanks}
use Rattle.lotos_check.specs.declared.guardedness.Ranking.{Ranking}
use Rattle.lotos_check.specs.declared.guardedness.Ranking.TheVariants.{Guarded, Unguarded}

-- the set is not empty, and is the largest unguarded one
pub record IsUnguarded (processes : List FlatProcess) (set : List ℕ) : Type 0 where
  pub first : ℕ
  pub others : List ℕ
  pub begins : set ≡ first ∷ others
  pub unguarded : IsLargestUnguardedSet processes set

-- ranks of the processes, or the largest unguarded set
abbrev pub IsRanked : List FlatProcess → Ranking → Type 0
IsRanked processes (Guarded ranks) = AreRanks processes ranks.items
IsRanked processes (Unguarded set) = IsUnguarded processes set.items

-- the list has exactly the processes that the process calls unguarded
abbrev pub AreCalls : List ℕ → FlatProcess → Type 0
AreCalls calls process = (q : ℕ) → In q calls ↔ CallsUnguarded process.body q

-- by the lists of calls, process `p` calls process `q`
abbrev pub ListsCall : List (List ℕ) → ℕ → ℕ → Type 0
ListsCall edges p q = (calls : List ℕ) × (slice_get edges p ≡ Some calls) × In q calls

-- every call goes to an existing process
abbrev pub CallsInRange : List (List ℕ) → Type 0
CallsInRange edges = (p q : ℕ) → ListsCall edges p q → q < length edges

-- how many processes have no rank yet
abbrev pub count_unranked : List (Option ℕ) → ℕ
count_unranked [] = 0
count_unranked (None ∷ ranks) = count_unranked ranks + 1
count_unranked (Some r ∷ ranks) = count_unranked ranks

-- the invariant of the ranks given so far, where `next` is the next one
pub record AreConsistentRanks (edges : List (List ℕ)) (ranks : List (Option ℕ)) (next : ℕ) : Type 0 where
  pub sized : length ranks ≡ length edges
  pub counted : next + count_unranked ranks ≡ length edges
  pub below : (p r : ℕ) → slice_get ranks p ≡ Some (Some r) → r < next
  pub falls : (p q r : ℕ) → ListsCall edges p q → slice_get ranks p ≡ Some (Some r) →
      (s : ℕ) × (slice_get ranks q ≡ Some (Some s)) × (s < r)

-- the process has a rank, or calls one without a rank
abbrev pub IsStuckAt : List (List ℕ) → List (Option ℕ) → ℕ → Type 0
IsStuckAt edges ranks p = slice_get ranks p ≡ Some None →
    (q : ℕ) × ListsCall edges p q × (slice_get ranks q ≡ Some None)

-- the ranks are consistent, and none can be added
pub record AreMaximalRanks (edges : List (List ℕ)) (ranks : List (Option ℕ)) : Type 0 where
  pub next : ℕ
  pub ordered : AreConsistentRanks edges ranks next
  pub stuck : (p : ℕ) → IsStuckAt edges ranks p

-- one of the processes has no rank
abbrev pub HasUnrankedCallee : List ℕ → List (Option ℕ) → Type 0
HasUnrankedCallee calls ranks = (q : ℕ) × In q calls × (slice_get ranks q ≡ Some None)

-- each of the processes has a rank
abbrev pub AreRanked : List ℕ → List (Option ℕ) → Type 0
AreRanked calls ranks = (q : ℕ) → In q calls → (s : ℕ) × (slice_get ranks q ≡ Some (Some s))

-- the processes without a rank, ascending
pub record AreUnranked (set : List ℕ) (ranks : List (Option ℕ)) : Type 0 where
  pub rises : IsAscending set
  pub same : (p : ℕ) → In p set ↔ (slice_get ranks p ≡ Some None)
