-- Lists of different numbers below a bound.
use Rattle.std.proofs.Common.{◌≡◌, ◌≢◌, ◌⊎◌, ◌∙◌, ◌<◌, ◌≤◌, ◌+◌, ℕ, zero, suc, List, [], ◌∷◌, Some, length, arith, inl, inr, refl, subst, sym}
use Rattle.std.specs.Prelude.{slice_get}
use Rattle.std.proofs.lemmas.Bool.{cases_eq}
use Rattle.lotos_check.specs.NameLists.{In}
use Rattle.lotos_check.proofs.ListIndices.{in_get}

-- no number of the list occurs twice
abbrev pub AreDifferent : List ℕ → Type 0
AreDifferent [] = Unit {0}
AreDifferent (d ∷ ds) = (In d ds → ⊥) × AreDifferent ds

-- a number is in a list or not
pub in_or_not : (ds : List ℕ) (n : ℕ) → In n ds ⊎ (In n ds → ⊥)
in_or_not [] n = inr (λ i. i)
in_or_not (d ∷ ds) n = elim (cases_eq d n) [
  | inl same ↦ inl (inl same)
  | inr other ↦ elim (in_or_not ds n) [
    | inl there ↦ inl (inr there)
    | inr missing ↦ inr (λ i. elim i [ inl same ↦ other same | inr there ↦ missing there ])
  ]
]

-- numbers with different indices are different if each has one index
pub different_by_index : (ds : List ℕ) → ((j k n : ℕ) → slice_get ds j ≡ Some n → slice_get ds k ≡ Some n → j ≡ k) → AreDifferent ds
different_by_index [] one = tt
different_by_index (d ∷ ds) one = (
  (λ i. let (k, at) = in_get ds d i in let never : zero ≡ suc k = one zero (suc k) d refl at in cc),
  different_by_index ds (λ j k n at there. let same : suc j ≡ suc k = one (suc j) (suc k) n at there in omega arith),
)

-- the list without a number: what is left is different, and at most one is gone
pub record IsWithout (ds : List ℕ) (n : ℕ) (rest : List ℕ) : Type 0 where
  pub different : AreDifferent rest
  pub among : (d : ℕ) → In d rest → In d ds × (d ≢ n)
  pub count : length ds ≤ length rest + 1

-- a list of different numbers without one of them
without : (ds : List ℕ) (n : ℕ) → AreDifferent ds → (rest : List ℕ) × IsWithout ds n rest
without [] n h = ([], record { different = tt; among = λ d i. absurd i; count = omega arith })
without (d ∷ ds) n (new, h) = elim (cases_eq d n) [
  | inl same ↦ (
    ds,
    record {
      different = h;
      among = λ e i. (inr i, λ is. new (subst (λ x. In x ds) (is ∙ sym same) i));
      count = omega arith;
    },
  )
  | inr other ↦
      let (rest, less) = without ds n h in
      let count = less.count in (
        d ∷ rest,
        record {
          different = ((λ i. new (less.among d i).0), less.different);
          among = λ e i. elim i [
            | inl is ↦ (inl is, λ same. other (is ∙ same))
            | inr there ↦ (inr (less.among e there).0, (less.among e there).1)
          ];
          count = omega arith;
        },
      )
]

-- there are no more different numbers below a bound than the bound
pub at_most : (bound : ℕ) (ds : List ℕ) → AreDifferent ds → ((d : ℕ) → In d ds → d < bound) → length ds ≤ bound
at_most zero [] h below = omega arith
at_most zero (d ∷ ds) h below = let never = below d (inl refl) in absurd (omega arith)
at_most (suc n) ds h below =
    let (rest, less) = without ds n h in
    let count = less.count in
    let few = at_most n rest less.different (λ d i.
    let there = less.among d i in
    let under = below d there.0 in
    let apart : d ≢ n = there.1 in
    elim (cases_eq d n) [ inl same ↦ absurd (apart same) | inr other ↦ grind arith ]) in
    omega arith

-- as many different numbers below the bound as there are, are all
pub all_in : (bound : ℕ) (ds : List ℕ) → AreDifferent ds → ((d : ℕ) → In d ds → d < bound) → bound ≤ length ds → (n : ℕ) → n < bound → In n ds
all_in bound ds h below many n under = elim (in_or_not ds n) [
  | inl there ↦ there
  | inr missing ↦ absurd (
      let few = at_most bound (n ∷ ds) (missing, h) (λ d i. elim i [
        | inl same ↦ subst (λ x. x < bound) same under
        | inr there ↦ below d there
      ]) in
      omega arith
      )
]
