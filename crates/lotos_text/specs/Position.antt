-- Lines and columns.
use Rattle.std.specs.Prelude.{◌≡◌, ◌≢◌, ℕ, ◌+◌, ◌<◌, ◌≤◌, ◌⊎◌, List, take, count_by, ◌==◌, slice_index}

-- the line is one more than the line feeds before the offset; the column counts bytes, the first 1, after the last of
-- these, or from the start of the text
pub record IsPosition (text : List ℕ) (at line column : ℕ) : Type 0 where
  pub lines : line ≡ count_by (λ b. b == 10) (take at text) + 1
  pub start : ℕ
  pub columns : start + column ≡ at + 1
  pub inside : start ≤ at
  pub begins : (start ≡ 0) ⊎ ((k : ℕ) × (start ≡ k + 1) × (slice_index text k ≡ 10))
  pub unbroken : (k : ℕ) → start ≤ k → k < at → slice_index text k ≢ 10
