-- The targets of the listed steps with a label.
use Rattle.std.proofs.Common.{◌≡◌, ◌<◌, ◌+◌, ◌++◌, ◌∷◌, [], ℕ, List, Some, arith, inl, inr, subst, sym, length}
use Rattle.std.specs.Prelude.{slice_get}
use Rattle.std.proofs.lemmas.Bool.{cases_eq}
use Rattle.std.proofs.lemmas.Option.{slice_get_within}
use Rattle.lotos_check.specs.NameLists.{In}
use Rattle.lotos_check.proofs.JoinedLists.{in_added, in_front, in_last}
use Rattle.lotos_check.proofs.ListIndices.{get_in, in_get, one_item}
use Rattle.lotos_store.specs.declared.label.Label.{Label}
use Rattle.lotos_origins.proofs.ListedSteps.{same_step}

-- the targets are those of the first steps of the list that have the label
pub record AreTargetsTo (list : List (Label × ℕ)) (label : Label) (n : ℕ) (targets : List ℕ) : Type 0 where
  pub only : (m : ℕ) → In m targets → In {X = Label × ℕ} (label, m) list
  pub all : (j m : ℕ) → j < n → slice_get list j ≡ Some (label, m) → In m targets

module _ (list : List (Label × ℕ)) (label : Label) where
  -- the empty list has the targets of the first 0 steps
  pub no_targets : AreTargetsTo list label 0 []
  no_targets = record { only = λ m none. absurd none; all = λ j m less at. absurd (omega arith) }

  -- the targets and that of the next step, which has the label, are those of one step more
  pub target_more : (n : ℕ) (targets more : List ℕ) (k : Label) (x : ℕ) → slice_get list n ≡ Some (k, x) → k ≡ label → more ≡ targets ++ x ∷ [] →
      AreTargetsTo list label n targets → AreTargetsTo list label (n + 1) more
  target_more n targets more k x at same longer so_far = record {
    only = λ m there. elim (in_added m targets x (subst (λ xs. In m xs) longer there)) [
      | inl was ↦ so_far.only m was
      | inr is ↦ subst (λ i. In {X = Label × ℕ} (label, i) list) is (subst (λ j. In {X = Label × ℕ} (j, x) list) same (get_in list n (k, x) at))
    ];
    all = λ j m less there. elim (cases_eq j n) [
      | inl here ↦
          let (labels, is) = same_step k label x m (one_item list n (k, x) (label, m) at (subst (λ i. slice_get list i ≡ Some (label, m)) here there)) in
          subst (λ i. In i more) is (subst (λ xs. In x xs) (sym longer) (in_last x targets))
      | inr other ↦ subst (λ xs. In m xs) (sym longer) (in_front m targets (x ∷ []) (so_far.all j m (omega (arith, less, other)) there))
    ];
  }

  -- the targets are those of one step more, if the next step has another label
  pub target_skipped : (n : ℕ) (targets : List ℕ) (k : Label) (x : ℕ) → slice_get list n ≡ Some (k, x) → (k ≡ label → ⊥) →
      AreTargetsTo list label n targets → AreTargetsTo list label (n + 1) targets
  target_skipped n targets k x at other so_far = record {
    only = so_far.only;
    all = λ j m less there. elim (cases_eq j n) [
      | inl here ↦ absurd (other (same_step k label x m
          (one_item list n (k, x) (label, m) at (subst (λ i. slice_get list i ≡ Some (label, m)) here there))).0)
      | inr apart ↦ so_far.all j m (omega (arith, less, apart)) there
    ];
  }

  -- if the targets are those of as many steps as the list has, each target of a step with the label is among them
  pub all_targets : (n : ℕ) (targets : List ℕ) → n ≡ length list → AreTargetsTo list label n targets → (m : ℕ) →
      In {X = Label × ℕ} (label, m) list → In m targets
  all_targets n targets end so_far m there =
      let (j, at) = in_get list (label, m) there in
      let within = slice_get_within list j (label, m) at in
      so_far.all j m (omega (arith, end, within)) at
