-- Rows of entries: what is known of the places that labels lead to.
use Rattle.std.specs.Prelude.{◌≡◌, ◌⊎◌, ℕ, zero, suc, List, Option, None, Some, map, slice_get}
use Rattle.std.proofs.Common.{Global, Vec}

-- what an entry says: nothing yet, that the label leads to no place, or the number of the place that it leads to
abbrev pub known_by : ℕ → Option (Option ℕ)
known_by zero = None
known_by (suc zero) = Some None
known_by (suc (suc n)) = Some (Some n)

-- the rows of the program, as plain lists
abbrev pub plain_rows : List (Vec ℕ Global) → List (List ℕ)
plain_rows = map (λ row. row.items)

-- an entry says that the label with number `k` leads from the place with number `n` to this one, or to none
pub record HasEntry (rows : List (List ℕ)) (n k : ℕ) (to : Option ℕ) : Type 0 where
  pub row : List ℕ
  pub row_at : slice_get rows n ≡ Some row
  pub entry : ℕ
  pub entry_at : slice_get row k ≡ Some entry
  pub known : known_by entry ≡ Some to

-- no entry says anything new
abbrev pub AddsNone : List (List ℕ) → List (List ℕ) → Type 0
AddsNone old new = (n k : ℕ) (to : Option ℕ) → HasEntry new n k to → HasEntry old n k to

-- only the entry of this place and this label may say anything new: where the label leads
abbrev pub AddsOnly : List (List ℕ) → List (List ℕ) → (place label : ℕ) → Option ℕ → Type 0
AddsOnly old new place label next = (n k : ℕ) (to : Option ℕ) → HasEntry new n k to →
    HasEntry old n k to ⊎ ((n ≡ place) × (k ≡ label) × (to ≡ next))
