-- The lists of calls, one for each process.
use Rattle.std.proofs.Common.{◌≡◌, ◌↔◌, ◌⊎◌, ◌+◌, ◌<◌, ◌++◌, ℕ, zero, suc, List, [], ◌∷◌, Option, Some, None, map, replicate, take, length, get_or, refl, inl, inr, arith}
use Rattle.std.specs.Prelude.{slice_get}
use Rattle.std.proofs.Math.Seq.{take-suc}
use Rattle.std.proofs.lemmas.List.{map-append, length-replicate}
use Rattle.lotos_check.specs.NameLists.{In}
use Rattle.lotos_check.specs.Flat.{FlatProcess, Pairwise}
use Rattle.lotos_check.specs.Guard.{Calls, CallsUnguarded}
use Rattle.lotos_check.specs.RankingSteps.{AreCalls, CallsInRange, ListsCall, AreConsistentRanks, count_unranked}
use Rattle.lotos_check.proofs.Pairs.{pair_end, pair_of_first, pair_of_second, pairs_length}

-- what is in the list of a process is called by it
pub lists_call : (edges : List (List ℕ)) (processes : List FlatProcess) → Pairwise AreCalls edges processes → (p q : ℕ) →
    ListsCall edges p q → Calls processes p q
lists_call edges processes all p q (list, e, i) =
    let r = pair_of_first edges processes all p list e in
    record { process = r.0; located = r.1; calls = (r.2 q).0 i }

-- what a process calls is in its list
pub calls_list : (edges : List (List ℕ)) (processes : List FlatProcess) → Pairwise AreCalls edges processes → (p q : ℕ) →
    Calls processes p q → ListsCall edges p q
calls_list edges processes all p q c =
    let r = pair_of_second edges processes all p c.process c.located in
    (r.0, r.1, (r.2 q).1 c.calls)

-- where every call goes to a process that there is, the lists hold such processes only
pub in_range : (edges : List (List ℕ)) (processes : List FlatProcess) (count : ℕ) → count ≡ length processes →
    Pairwise AreCalls edges processes → ((p q : ℕ) → Calls processes p q → q < count) → CallsInRange edges
in_range edges processes count counted all within = λ p q lists.
    let below = within p q (lists_call edges processes all p q lists) in
    let sized = pairs_length edges processes all in
    omega arith

-- the lists so far, and the list of the next process
pub next_list : {X Y : Type 0} (items_of : X → List ℕ) (process_of : Y → FlatProcess) (edges : List X)
    (processes : List Y) (k : ℕ) (x : X) (y : Y) →
    k < length processes → y ≡ get_or processes k y →
    Pairwise AreCalls (map items_of edges) (map process_of (take k processes)) → AreCalls (items_of x) (process_of y) →
    Pairwise AreCalls (map items_of (edges ++ x ∷ [])) (map process_of (take (k + 1) processes))
next_list items_of process_of edges processes k x y below read all h =
    let step : suc k ≡ k + 1 = omega arith in
    let longer : take (k + 1) processes ≡ take k processes ++ y ∷ [] = rw (step, ← read) at (take-suc processes k y below) in
    rw (longer, map-append items_of edges (x ∷ []), map-append process_of (take k processes) (y ∷ []))
    (pair_end (map items_of edges) (map process_of (take k processes)) (items_of x) (process_of y) all h)

-- of two cases of which the first is impossible, the second holds
second : {A : Type 0} → ⊥ ⊎ A → A
second (inl none) = elim none [ ]
second (inr a) = a

-- what was added to an empty list is all that the process calls
pub added_alone : (old new : List ℕ) (process : FlatProcess) → old ≡ [] →
    ((q : ℕ) → In q new ↔ In q old ⊎ CallsUnguarded process.body q) → AreCalls new process
added_alone old new process empty added = λ q.
    let here : In q new ↔ In q [] ⊎ CallsUnguarded process.body q = rw empty at (added q) in
    (λ i. second (here.0 i), λ c. here.1 (inr c))

-- a list of nothing but `None` has a rank at no index
unnumbered_none : (n p r : ℕ) → slice_get {X = Option ℕ} (replicate n None) p ≡ Some (Some r) → ⊥
unnumbered_none zero p r e = cc
unnumbered_none (suc n) zero r e = cc
unnumbered_none (suc n) (suc p) r e = unnumbered_none n p r e

-- in a list of `n` times `None`, `n` processes have no rank
waiting_all : (n : ℕ) → count_unranked (replicate n None) ≡ n
waiting_all zero = refl
waiting_all (suc n) = let later = waiting_all n in omega arith

-- if no process has a rank, the ranks are consistent, and 0 is the next one
unnumbered : (edges : List (List ℕ)) (n : ℕ) → n ≡ length edges → AreConsistentRanks edges (replicate n None) 0
unnumbered edges n e = record {
  sized = rw (length-replicate {A = Option ℕ} n None) e;
  counted = let all = waiting_all n in omega arith;
  below = λ p r has. absurd (unnumbered_none n p r has);
  falls = λ p q r lists has. absurd (unnumbered_none n p r has);
}

-- at the beginning no process has a rank
pub none_numbered : (edges : List (List ℕ)) (processes : List FlatProcess) (n : ℕ) → n ≡ length processes →
    Pairwise AreCalls edges processes → AreConsistentRanks edges (replicate n None) 0
none_numbered edges processes n e all = let sized = pairs_length edges processes all in unnumbered edges n (omega arith)
