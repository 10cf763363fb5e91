use Rattle.std.proofs.Common.{◌≡◌, ◌≢◌, ℕ, ◌+◌, ◌<◌, ◌≤◌, ◌⊎◌, slice_index}
use Rattle.lotos_explain.proofs.line_bounds.line_start.Given as goal

-- the start so far, as the definition says it of the offset that the loop has reached
abbrev pub invariant-loop-k : goal.invariant-loop-k
invariant-loop-k l = record {
  before : l.start ≤ l.k;
  begins : (l.start ≡ 0) ⊎ ((k : ℕ) × (l.start ≡ k + 1) × (slice_index l.text k ≡ 10));
  unbroken : (k : ℕ) → l.start ≤ k → k < l.k → slice_index l.text k ≢ 10;
}
