-- No process of an unguarded set has a rank, and the processes without a rank are the largest such set.
use Rattle.std.proofs.Common.{◌≡◌, ℕ, ◌+◌, ◌<◌, zero, suc, List, [], ◌∷◌, Option, Some, None, map, length, refl, arith}
use Rattle.std.specs.Prelude.{slice_get}
use Rattle.std.proofs.lemmas.List.{length-map}
use Rattle.std.proofs.lemmas.Option.{slice_get_within, slice_get-get_or, slice_get-map}
use Rattle.lotos_check.specs.NameLists.{In}
use Rattle.lotos_check.specs.Flat.{FlatProcess, Pairwise}
use Rattle.lotos_check.specs.Guard.{IsLargestUnguardedSet, IsRanking, IsUnguardedSet}
use Rattle.lotos_check.specs.RankingSteps.{AreCalls, AreUnranked, AreMaximalRanks, IsUnguarded}
use Rattle.lotos_check.specs.Acceptance.{AreRanks}
use Rattle.lotos_check.proofs.CallLists.{lists_call, calls_list}
use Rattle.lotos_check.proofs.Pairs.{pairs_length}

-- if ranks decrease at every unguarded call, no process of an unguarded set has a rank below `n`, whatever `n` is
falls_from : (processes : List FlatProcess) (set : List ℕ) (rank : ℕ → ℕ) → IsUnguardedSet processes set →
    IsRanking processes rank → (n p : ℕ) → rank p < n → In p set → ⊥
falls_from processes set rank unguarded falls zero p below stands = omega (arith, below)
falls_from processes set rank unguarded falls (suc n) p below stands =
    let call = unguarded p stands in
    let lower = falls p call.0 call.1 in
    falls_from processes set rank unguarded falls n call.0 (omega arith) call.2

-- where a set that is not empty calls into itself, no ranks fall at every unguarded call
pub unguarded_has_no_ranking : (processes : List FlatProcess) (set : List ℕ) (rank : ℕ → ℕ) (p : ℕ) → IsUnguardedSet processes set →
    In p set → IsRanking processes rank → ⊥
unguarded_has_no_ranking processes set rank p unguarded stands falls =
    falls_from processes set rank unguarded falls (rank p + 1) p (omega arith) stands

module _ (edges : List (List ℕ)) (processes : List FlatProcess) (ranks : List (Option ℕ))
    (all : Pairwise AreCalls edges processes) (given : AreMaximalRanks edges ranks) where
  -- by these ranks, no process of an unguarded set has a rank below `n`, whatever `n` is
  descent : (other : List ℕ) → IsUnguardedSet processes other → (n p r : ℕ) → r < n → slice_get ranks p ≡ Some (Some r) → In p other → ⊥
  descent other unguarded zero p r below has stands = omega (arith, below)
  descent other unguarded (suc n) p r below has stands =
      let call = unguarded p stands in
      let next = given.ordered.falls p call.0 r (calls_list edges processes all p call.0 call.1) has in
      let lower = next.2 in
      descent other unguarded n call.0 next.0 (omega arith) next.1 call.2

  -- a process of an unguarded set has no rank, if it is in the list of ranks at all
  waits_at : (other : List ℕ) → IsUnguardedSet processes other → (p : ℕ) → In p other → (v : Option ℕ) →
      slice_get ranks p ≡ Some v → slice_get ranks p ≡ Some None
  waits_at other unguarded p stands None has = has
  waits_at other unguarded p stands (Some r) has = absurd (descent other unguarded (suc r) p r (omega arith) has stands)

  -- a process of such a set has no rank
  unguarded_waits : (other : List ℕ) → IsUnguardedSet processes other → (p : ℕ) → In p other → slice_get ranks p ≡ Some None
  unguarded_waits other unguarded p stands =
      let call = unguarded p stands in
      let list = calls_list edges processes all p call.0 call.1 in
      let within = slice_get_within edges p list.0 list.1 in
      let sized = given.ordered.sized in
      let inside : p < length ranks = omega arith in
      waits_at other unguarded p stands _ (slice_get-get_or ranks p None inside)

  -- the processes without a rank, ascending, are the largest unguarded set
  largest : (set : List ℕ) → AreUnranked set ranks → IsLargestUnguardedSet processes set
  largest set waiting = record {
    unguarded = λ p stands.
        let next = given.stuck p ((waiting.same p).0 stands) in
        (next.0, lists_call edges processes all p next.0 next.1, (waiting.same next.0).1 next.2);
    largest = λ other unguarded p stands. (waiting.same p).1 (unguarded_waits other unguarded p stands);
    rises = waiting.rises;
  }

  -- the processes without a rank are the largest such set
  pub is_unguarded : (set : List ℕ) → AreUnranked set ranks → (set ≡ [] → ⊥) → IsUnguarded processes set
  is_unguarded [] waiting some = absurd (some refl)
  is_unguarded (first ∷ others) waiting some = record {
    first = first;
    others = others;
    begins = refl;
    unguarded = largest
        (first ∷ others) waiting;
  }

  -- if the ranks are these numbers, one for each process, the number at an index is the rank there
  number_read : (numbers : List ℕ) → map Some numbers ≡ ranks → (p r : ℕ) → slice_get numbers p ≡ Some r →
      slice_get ranks p ≡ Some (Some r)
  number_read numbers whole p r has =
      let read : slice_get (map Some numbers) p ≡ Some (Some r) = rw (slice_get-map Some numbers p, has) refl in
      rw whole at read

  -- where each process has a rank, the ranks fall at every unguarded call
  pub are_ranks : (numbers : List ℕ) → map Some numbers ≡ ranks → AreRanks processes numbers
  are_ranks numbers whole = record {
    all =
        let count : length (map Some numbers) ≡ length numbers = length-map numbers Some in
        let same : length ranks ≡ length numbers = rw whole at count in
        let sized = given.ordered.sized in
        let listed = pairs_length edges processes all in
        omega arith;
    falls = λ p q r s calls has_p has_q.
        let next = given.ordered.falls p q r (calls_list edges processes all p q calls) (number_read numbers whole p r has_p) in
        let read = number_read numbers whole q s has_q in
        let there = next.1 in
        let same : next.0 ≡ s = cc in
        let lower = next.2 in
        omega arith;
  }
