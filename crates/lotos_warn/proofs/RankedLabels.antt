-- The labels of processes, made in the order of their ranks.
use Rattle.std.proofs.Common.{◌≡◌, ◌+◌, ◌<◌, ◌≤◌, ℕ, zero, suc, List, [], ◌∷◌, Some, slice_get, length, get_or, ◌++◌, refl, sym, ap, ◌∙◌, subst, inl, inr, arith}
use Rattle.std.proofs.Math.Logic.{∥∥₁_elim}
use Rattle.std.specs.Prelude.{slice_set}
use Rattle.std.specs.Coded.{le_prop}
use Rattle.std.specs.List.Sorted.{IsNonDecreasingBy, IsPermutation}
use Rattle.std.proofs.lemmas.Bool.{cases_eq, cases_lt}
use Rattle.std.proofs.lemmas.Option.{get_or_from_slice_get, slice_get_within}
use Rattle.lotos_check.specs.NameLists.{In}
use Rattle.lotos_check.specs.Flat.{FlatProcess, System}
use Rattle.lotos_check.specs.Guard.{Calls}
use Rattle.lotos_check.specs.CheckedInvariant.{IsCheckedSystem}
use Rattle.lotos_check.proofs.CheckedInvariants.{ranked_within}
use Rattle.lotos_check.proofs.ListIndices.{get_in, get_some, in_get, in_permuted, one_item}
use Rattle.lotos_check.proofs.JoinedLists.{in_added, in_back, in_front}
use Rattle.lotos_warn.specs.declared.first_labels.FirstLabels.{FirstLabels}
use Rattle.lotos_warn.specs.declared.process_labels.RankedProcess.{RankedProcess}
use Rattle.lotos_warn.specs.LabelSets.{AreRankedBy, BeginsBy, HasExactly, IsKnown, IsSetAt, KeepsOthers}
use Rattle.lotos_warn.proofs.ExitingNumbers.{both_ways}
use Rattle.lotos_warn.proofs.LabelForms.{AreCallsKnown, begins_exactly}

-- a called process has a smaller rank
rank_falls : (system : System) (ranks : List ℕ) → ∥ IsCheckedSystem system ranks ∥₁ → (p q r s : ℕ) → Calls system.processes p q →
    slice_get ranks p ≡ Some r → slice_get ranks q ≡ Some s → s < r
rank_falls system ranks kept p q r s calls at_p at_q =
    ∥∥₁_elim {P = s < r} kept le_prop (λ k. k.ranked.falls p q r s calls at_p at_q)

-- there are no more ranks than processes
ranks_counted : (system : System) (ranks : List ℕ) → ∥ IsCheckedSystem system ranks ∥₁ → length ranks ≤ length system.processes
ranks_counted system ranks kept = ∥∥₁_elim {P = length ranks ≤ length system.processes} kept le_prop (λ c. let all = c.ranked.all in omega arith)

-- the labels of the processes before this index of the order are known
abbrev pub AreKnownBefore : List FlatProcess → List RankedProcess → List FirstLabels → ℕ → Type 0
AreKnownBefore processes order known index = (j : ℕ) (p : RankedProcess) → j < index → slice_get order j ≡ Some p → IsKnown processes known p.number

-- the processes before this number are in the list with their ranks, and no others
pub record AreRankedTo (ranks : List ℕ) (list : List RankedProcess) (number : ℕ) : Type 0 where
  pub all : (k rank : ℕ) → k < number → slice_get ranks k ≡ Some rank → In (record { rank = rank; number = k }) list
  pub only : (p : RankedProcess) → In p list → slice_get ranks p.number ≡ Some p.rank

-- the empty list has the processes before number 0 with their ranks
pub ranked_start : (ranks : List ℕ) (list : List RankedProcess) → list ≡ [] → AreRankedTo ranks list 0
ranked_start ranks list none = record {
  all = λ k rank below at. absurd (omega arith);
  only = λ p i. absurd (subst (In p) none i);
}

-- if the process with the number is appended with its rank, the list has those before the next number with their ranks
pub ranked_next : (ranks : List ℕ) (old new : List RankedProcess) (number rank : ℕ) → slice_get ranks number ≡ Some rank →
    new ≡ old ++ record { rank = rank; number = number } ∷ [] → AreRankedTo ranks old number → AreRankedTo ranks new (number + 1)
ranked_next ranks old new number rank here grown before = record {
  all = λ k other below at. subst (In (record { rank = other; number = k })) (sym grown) (elim (cases_eq k number) [
    | inl e ↦ in_back _ old (record { rank = rank; number = number } ∷ []) (inl (ranked_same k number other rank e
        (one_item ranks number other rank (subst (λ i. slice_get ranks i ≡ Some other) e at) here)))
    | inr apart ↦ in_front _ old (record { rank = rank; number = number } ∷ []) (before.all k other (omega arith) at)
  ]);
  only = λ p i. elim (in_added p old (record { rank = rank; number = number }) (subst (In p) grown i)) [
    | inl j ↦ before.only p j
    | inr e ↦ subst (λ (q : RankedProcess). slice_get ranks q.number ≡ Some q.rank) e here
  ];
}
  where
    ranked_same : (k number other rank : ℕ) → k ≡ number → other ≡ rank →
        ◌≡◌ {A = RankedProcess} (record { rank = rank; number = number }) (record { rank = other; number = k })
    ranked_same k number other rank e f = rw (e, f) refl

-- in the end all are
pub ranked_all : (system : System) (ranks : List ℕ) (list : List RankedProcess) (number : ℕ) → ∥ IsCheckedSystem system ranks ∥₁ →
    length system.processes ≤ number → AreRankedTo ranks list number → AreRankedBy ranks list
ranked_all system ranks list number kept done before = record {
  all = λ k rank at.
      let below = slice_get_within ranks k rank at in
      let counted = ranks_counted system ranks kept in
      before.all k rank (omega arith) at;
  only = before.only;
}

-- and in any order
pub ranked_permuted : (ranks : List ℕ) (old new : List RankedProcess) → IsPermutation old new → AreRankedBy ranks old → AreRankedBy ranks new
ranked_permuted ranks old new moved before = record {
  all = λ k rank at. (in_permuted old new moved (record { rank = rank; number = k })).1 (before.all k rank at);
  only = λ p i. before.only p ((in_permuted old new moved p).0 i);
}

-- the items of a list in which one is set
get_set : {X : Type 0} (xs : List X) (p : ℕ) (v : X) → p < length xs → slice_get (slice_set xs p v) p ≡ Some v
get_set [] p v h = absurd (omega arith)
get_set (y ∷ xs) zero v h = refl
get_set (y ∷ xs) (suc p) v h = get_set xs p v (omega arith)

-- to set an item of a list changes no item at another index
pub get_set_other : {X : Type 0} (xs : List X) (p k : ℕ) (v : X) → (k ≡ p → ⊥) → slice_get (slice_set xs p v) k ≡ slice_get xs k
get_set_other [] p k v apart = refl
get_set_other (y ∷ xs) zero zero v apart = absurd (apart refl)
get_set_other (y ∷ xs) zero (suc k) v apart = refl
get_set_other (y ∷ xs) (suc p) zero v apart = refl
get_set_other (y ∷ xs) (suc p) (suc k) v apart = get_set_other xs p k v (λ e. apart (ap suc e))

-- labels that are put into the list
pub set_next : (processes : List FlatProcess) (old : List FirstLabels) (number : ℕ) (process : FlatProcess) (labels : FirstLabels) →
    slice_get processes number ≡ Some process → number < length old → HasExactly labels (BeginsBy processes old process.body) →
    IsSetAt processes number old (slice_set old number labels)
set_next processes old number process labels at within exact other located = (
  labels,
  get_set old number labels within,
  subst (λ (p : FlatProcess). HasExactly labels (BeginsBy processes old p.body)) (one_item processes number process other at located) exact,
)

-- a process of the list is one of the system
pub ranked_number : (system : System) (ranks : List ℕ) (list : List RankedProcess) (p : RankedProcess) → ∥ IsCheckedSystem system ranks ∥₁ →
    AreRankedBy ranks list → In p list → p.number < length system.processes
ranked_number system ranks list p kept all i =
    let below = slice_get_within ranks p.number p.rank (all.only p i) in
    let counted = ranks_counted system ranks kept in
    omega arith

module _ (system : System) (ranks : List ℕ) (kept : ∥ IsCheckedSystem system ranks ∥₁) (order : List RankedProcess) (all : AreRankedBy ranks order)
    (ordered : IsNonDecreasingBy (λ p. p.rank) order) where
  -- at the start none are before it
  pub known_start : (known : List FirstLabels) → AreKnownBefore system.processes order known 0
  known_start known j p below at = absurd (omega arith)

  -- each process has an index
  placed : (k : ℕ) (process : FlatProcess) → slice_get system.processes k ≡ Some process → (rank : ℕ) × (slice_get ranks k ≡ Some rank)
      × (j : ℕ) × (slice_get order j ≡ Some (record { rank = rank; number = k }))
  placed k process at =
      let (rank, there) = get_some ranks k (ranked_within system ranks k kept (slice_get_within system.processes k process at)) in
      let (j, here) = in_get order (record { rank = rank; number = k }) (all.all k rank there) in
      (rank, there, j, here)

  -- the processes that one calls unguarded are before it
  calls_known : (known : List FirstLabels) (index : ℕ) (p : RankedProcess) (process : FlatProcess) → slice_get order index ≡ Some p →
      slice_get system.processes p.number ≡ Some process → AreKnownBefore system.processes order known index → AreCallsKnown system.processes known process.body
  calls_known known index p process at located before q calls called found =
      let (rank, there, j, here) = placed q called found in
      let own : slice_get ranks p.number ≡ Some p.rank = all.only p (get_in order index p at) in
      let falls : rank < p.rank =
      rank_falls system ranks kept p.number q p.rank rank (record { process = process; located = located; calls = calls }) own there in
      elim (cases_lt j index) [
        | inl less ↦ before j (record { rank = rank; number = q }) less here called found
        | inr past ↦ absurd (
            let rises = ordered index j p past (slice_get_within order j (record { rank = rank; number = q }) here) in
            let first : get_or order index p ≡ p = get_or_from_slice_get order index p p at in
            let second : get_or order j p ≡ record { rank = rank; number = q } = get_or_from_slice_get order j (record { rank = rank; number = q }) p here in
            let a : (get_or order index p).rank ≡ p.rank = ap (λ (x : RankedProcess). x.rank) first in
            let b : (get_or order j p).rank ≡ rank = ap (λ (x : RankedProcess). x.rank) second in
            omega arith)
      ]

  -- the labels that are set are those that the process can begin with
  set_exactly : (known new : List FirstLabels) (index : ℕ) (p : RankedProcess) → slice_get order index ≡ Some p →
      IsSetAt system.processes p.number known new → AreKnownBefore system.processes order known index → IsKnown system.processes new p.number
  set_exactly known new index p at set before process located =
      let (labels, here, exact) = set process located in (
        labels,
        here,
        (λ x. both_ways (exact x)
            (begins_exactly system.processes known process.body (calls_known known index p process at located before) x)),
      )

  -- the labels of one more process are set
  pub known_next : (known new : List FirstLabels) (index : ℕ) (p : RankedProcess) → slice_get order index ≡ Some p →
      IsSetAt system.processes p.number known new → KeepsOthers p.number known new →
      AreKnownBefore system.processes order known index → AreKnownBefore system.processes order new (index + 1)
  known_next known new index p at set others before j other below there =
      elim (cases_eq other.number p.number) [
        | inl e ↦ subst (IsKnown system.processes new) (sym e) (set_exactly known new index p at set before)
        | inr apart ↦ (
            let earlier : j < index = elim (cases_eq j index) [
              | inl same ↦ absurd (apart (ap (λ (x : RankedProcess). x.number)
                  (one_item order index other p (subst (λ i. slice_get order i ≡ Some other) same there) at)))
              | inr differs ↦ omega arith
            ] in
            λ process located. let (labels, here, exact) = before j other earlier there process located in
            (labels, others other.number apart ∙ here, exact))
      ]

  -- in the end all are known
  pub known_all : (known : List FirstLabels) (index : ℕ) → length order ≤ index →
      AreKnownBefore system.processes order known index → (k : ℕ) → IsKnown system.processes known k
  known_all known index done before k process located =
      let (rank, there, j, here) = placed k process located in
      let below = slice_get_within order j (record { rank = rank; number = k }) here in
      before j (record { rank = rank; number = k }) (omega arith) here process located
