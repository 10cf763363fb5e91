-- The processes that are reached, found one after the other.
use Rattle.std.proofs.Common.{◌≡◌, ◌↔◌, ◌⊎◌, ℕ, ◌+◌, ◌<◌, ◌≤◌, List, [], Some, slice_get, length, sym, subst, inl, inr, arith}
use Rattle.std.proofs.lemmas.Bool.{cases_lt}
use Rattle.std.proofs.lemmas.Option.{slice_get_within}
use Rattle.lotos_check.specs.NameLists.{In}
use Rattle.lotos_check.specs.Flat.{System}
use Rattle.lotos_check.proofs.ListIndices.{get_in, get_some, in_get, one_item}
use Rattle.lotos_warn.specs.Additions.{Adds, ContainsCallOf, IsCalledByNumber, IsReachedIn, KeepsIndices, by_start, by_process}
use Rattle.lotos_warn.proofs.Additions.{adds_alone}

-- all numbers are of processes that are reached, among them those that the behaviour calls and those that the processes
-- before the index call
pub record IsExpandedTo (system : System) (keys : List ℕ) (index : ℕ) : Type 0 where
  pub sound : (k : ℕ) → In k keys → IsReachedIn system k
  pub start : (k : ℕ) → ContainsCallOf system.start k → In k keys
  pub followed : (i caller : ℕ) → i < index → slice_get keys i ≡ Some caller → (k : ℕ) → IsCalledByNumber system.processes caller k → In k keys

-- at the start there are those that the behaviour calls
pub expanded_none : (system : System) (old keys : List ℕ) → old ≡ [] → Adds old keys (ContainsCallOf system.start) → IsExpandedTo system keys 0
expanded_none system old keys empty added =
    let alone = adds_alone old keys (ContainsCallOf system.start) empty added in
    record {
      sound = λ k i. by_start ((alone k).0 i);
      start = λ k c. (alone k).1 c;
      followed = λ i caller below there k c. absurd (omega arith);
    }

-- those that the process at the index calls are added
pub expanded_more : (system : System) (old new : List ℕ) (index caller : ℕ) → IsExpandedTo system old index → slice_get old index ≡ Some caller →
    Adds old new (IsCalledByNumber system.processes caller) → KeepsIndices old new → IsExpandedTo system new (index + 1)
expanded_more system old new index caller before at added keeps = record {
  sound = λ k i. elim ((added k).0 i) [
    | inl j ↦ before.sound k j
    | inr c ↦ by_process (before.sound caller (get_in old index caller at)) c
  ];
  start = λ k c. (added k).1 (inl (before.start k c));
  followed = λ i other below there k c. by_index i other below there k c (cases_lt i index);
}
  where
    by_index : (i other : ℕ) → i < index + 1 → slice_get new i ≡ Some other → (k : ℕ) → IsCalledByNumber system.processes other k →
        (i < index) ⊎ (index ≤ i) → In k new
    by_index i other below there k c (inl less) =
        let z = slice_get_within old index caller at in
        let first = get_some old i (omega arith) in
        let same = one_item new i first.0 other (keeps i first.0 first.1) there in
        (added k).1 (inl (before.followed i first.0 less first.1 k (subst (λ p. IsCalledByNumber system.processes p k) (sym same) c)))
    by_index i other below there k c (inr past) =
        let last : i ≡ index = omega arith in
        let here = subst (λ j. slice_get new j ≡ Some other) last there in
        let same = one_item new index other caller here (keeps index caller at) in
        (added k).1 (inr (subst (λ p. IsCalledByNumber system.processes p k) same c))

-- in the end all are there
module _ (system : System) (keys : List ℕ) (index : ℕ) (all : IsExpandedTo system keys index) (done : length keys ≤ index) where
  -- each process that is reached is among the numbers
  there : (k : ℕ) → IsReachedIn system k → In k keys
  there k (by_start c) = all.start k c
  there k (by_process {caller = p} r c) =
      let (i, at) = in_get keys p (there p r) in
      let z = slice_get_within keys i p at in
      all.followed i p (omega arith) at k c

  -- the numbers are exactly those of the processes that are reached
  pub expanded_all : (k : ℕ) → In k keys ↔ IsReachedIn system k
  expanded_all k = (all.sound k, there k)
