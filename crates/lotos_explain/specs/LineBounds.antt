-- The line of an offset: a line ends with a line feed, which is not one of its bytes here, or with the text.
use Rattle.std.specs.Prelude.{◌≡◌, ◌≢◌, ℕ, ◌+◌, ◌<◌, ◌≤◌, ◌⊎◌, List, length, slice_index}
use Rattle.lotos_explain.specs.declared.line_bounds.LineBounds.{LineBounds}

-- a line starts there, and no line feed is between it and the offset
pub record IsLineStart (text : List ℕ) (at start : ℕ) : Type 0 where
  pub before : start ≤ at
  pub begins : (start ≡ 0) ⊎ ((k : ℕ) × (start ≡ k + 1) × (slice_index text k ≡ 10))
  pub unbroken : (k : ℕ) → start ≤ k → k < at → slice_index text k ≢ 10

-- the text ends there or a line feed is there, and none is from the offset to it
pub record IsLineEnd (text : List ℕ) (at end : ℕ) : Type 0 where
  pub after : at ≤ end
  pub inside : end ≤ length text
  pub ends : (end ≡ length text) ⊎ (slice_index text end ≡ 10)
  pub unbroken : (k : ℕ) → at ≤ k → k < end → slice_index text k ≢ 10

-- the bounds of the line that has the offset
pub record IsLineOf (text : List ℕ) (at : ℕ) (bounds : LineBounds) : Type 0 where
  pub starts : IsLineStart text at bounds.start
  pub stops : IsLineEnd text at bounds.end
