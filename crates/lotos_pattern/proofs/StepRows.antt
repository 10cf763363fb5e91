-- Rows of entries that change.
use Rattle.std.proofs.Common.{◌≡◌, ◌⊎◌, ◌∙◌, ℕ, zero, suc, List, [], ◌∷◌, ◌++◌, Option, Some, Global, Vec, ap, inl, inr, length, refl, set, subst, sym}
use Rattle.std.specs.Prelude.{slice_get, slice_set}
use Rattle.std.specs.Option.{option_map}
use Rattle.std.specs.Vec.{with_item}
use Rattle.std.proofs.lemmas.List.{map-append, map-set}
use Rattle.std.proofs.lemmas.Option.{slice_get-map}
use Rattle.lotos_pattern.specs.StepRows.{AddsNone, AddsOnly, known_by, plain_rows}

module _ {X : Type 0} where
  -- an item of a list with one more is an item of the list, or the last
  pub get_added : (xs : List X) (x : X) (k : ℕ) (y : X) → slice_get (xs ++ x ∷ []) k ≡ Some y → (slice_get xs k ≡ Some y) ⊎ ((k ≡ length xs) × (x ≡ y))
  get_added [] x zero y e = inr (refl, cc)
  get_added [] x (suc k) y e = cc
  get_added (z ∷ xs) x zero y e = inl e
  get_added (z ∷ xs) x (suc k) y e = elim (get_added xs x k y e) [ inl i ↦ inl i | inr i ↦ inr (ap suc i.0, i.1) ]

  -- an item of a list in which one is set is an item of the list, or the one that is set
  pub get_set : (xs : List X) (i : ℕ) (x : X) (k : ℕ) (y : X) → slice_get (set xs i x) k ≡ Some y → (slice_get xs k ≡ Some y) ⊎ ((k ≡ i) × (x ≡ y))
  get_set [] i x k y e = inl e
  get_set (z ∷ xs) zero x zero y e = inr (refl, cc)
  get_set (z ∷ xs) zero x (suc k) y e = inl e
  get_set (z ∷ xs) (suc i) x zero y e = inl e
  get_set (z ∷ xs) (suc i) x (suc k) y e = elim (get_set xs i x k y e) [ inl h ↦ inl h | inr h ↦ inr (ap suc h.0, h.1) ]

-- a row without entries says nothing
pub empty_row_adds_none : (old : List (List ℕ)) (rows more : List (Vec ℕ Global)) (row : Vec ℕ Global) → AddsNone old (plain_rows rows) → row.items ≡ [] →
    more ≡ rows ++ row ∷ [] → AddsNone old (plain_rows more)
empty_row_adds_none old rows more row before none grown n k to has =
    let shown : plain_rows more ≡ plain_rows rows ++ row.items ∷ [] = ap plain_rows grown ∙ map-append (λ (r : Vec ℕ Global). r.items) rows (row ∷ []) in
    let at : slice_get (plain_rows rows ++ row.items ∷ []) n ≡ Some has.row = subst (λ rs. slice_get rs n ≡ Some has.row) shown has.row_at in
    elim (get_added (plain_rows rows) row.items n has.row at) [
      | inl here ↦ before n k to (record { row = has.row; row_at = here; entry = has.entry; entry_at = has.entry_at; known = has.known })
      | inr last ↦
          let bare : [] ≡ has.row = sym none ∙ last.1 in
          let no : slice_get [] k ≡ Some has.entry = subst (λ r. slice_get r k ≡ Some has.entry) (sym bare) has.entry_at in
          cc
    ]

-- an entry says one thing
same_known : (entry other : ℕ) (to next : Option ℕ) → entry ≡ other → known_by other ≡ Some to → known_by entry ≡ Some next → to ≡ next
same_known entry other to next same says meant = let both : known_by other ≡ Some next = subst (λ e. known_by e ≡ Some next) same meant in cc

-- an entry that is set adds what it says
module _ (rows : List (List ℕ)) (place : ℕ) (row : List ℕ) (label entry : ℕ) (next : Option ℕ)
    (here : slice_get rows place ≡ Some row) (meant : known_by entry ≡ Some next) where
  -- once the entry of the place and the label is set, only it may say anything new: `next`
  entry_adds_only : AddsOnly rows (set rows place (set row label entry)) place label next
  entry_adds_only n k to has = elim (get_set rows place (set row label entry) n has.row has.row_at) [
    | inl other ↦ inl (record { row = has.row; row_at = other; entry = has.entry; entry_at = has.entry_at; known = has.known })
    | inr own ↦
        let at : slice_get (set row label entry) k ≡ Some has.entry = subst (λ r. slice_get r k ≡ Some has.entry) (sym own.1) has.entry_at in
        elim (get_set row label entry k has.entry at) [
          | inl kept ↦
              let row_here = subst (λ i. slice_get rows i ≡ Some row) (sym own.0) here in
              inl (record { row = row; row_at = row_here; entry = has.entry; entry_at = kept; known = has.known })
          | inr put ↦ inr (own.0, put.0, same_known entry has.entry to next put.1 has.known meant)
        ]
  ]

-- the same for the rows of the program
pub set_adds_only : (rows : List (Vec ℕ Global)) (place : ℕ) (row : Vec ℕ Global) (label entry : ℕ) (next : Option ℕ) →
    slice_get rows place ≡ Some row → known_by entry ≡ Some next →
    AddsOnly (plain_rows rows) (plain_rows (slice_set rows place (with_item row label entry))) place label next
set_adds_only rows place row label entry next here meant =
    let at : slice_get (plain_rows rows) place ≡ Some row.items =
    slice_get-map (λ (r : Vec ℕ Global). r.items) rows place ∙ ap (option_map (λ (r : Vec ℕ Global). r.items)) here in
    subst (λ more. AddsOnly (plain_rows rows) more place label next) (sym (map-set (λ (r : Vec ℕ Global). r.items) rows place (with_item row label entry)))
    (entry_adds_only (plain_rows rows) place row.items label entry next at meant)

-- a row that says nothing, put where another was, adds nothing
pub blank_row_adds_none : (old : List (List ℕ)) (rows : List (Vec ℕ Global)) (place : ℕ) (row : Vec ℕ Global) → AddsNone old (plain_rows rows) →
    ((k entry : ℕ) → slice_get row.items k ≡ Some entry → entry ≡ 0) → AddsNone old (plain_rows (slice_set rows place row))
blank_row_adds_none old rows place row before none n k to has =
    let at : slice_get (set (plain_rows rows) place row.items) n ≡ Some has.row =
    subst (λ rs. slice_get rs n ≡ Some has.row) (map-set (λ (r : Vec ℕ Global). r.items) rows place row) has.row_at in
    elim (get_set (plain_rows rows) place row.items n has.row at) [
      | inl other ↦ before n k to (record { row = has.row; row_at = other; entry = has.entry; entry_at = has.entry_at; known = has.known })
      | inr own ↦
          let nothing : has.entry ≡ 0 = none k has.entry (subst (λ r. slice_get r k ≡ Some has.entry) (sym own.1) has.entry_at) in
          let no : known_by 0 ≡ Some to = subst (λ e. known_by e ≡ Some to) nothing has.known in
          cc
    ]

-- where first nothing is added and then one entry, one is added
pub adds_none_then_only : (old between new : List (List ℕ)) (place label : ℕ) (next : Option ℕ) → AddsNone old between → AddsOnly between new place label next →
    AddsOnly old new place label next
adds_none_then_only old between new place label next none only n k to has = elim (only n k to has) [ inl kept ↦ inl (none n k to kept) | inr own ↦ inr own ]
