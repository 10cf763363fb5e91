use Rattle.std.proofs.Common.{◌≡◌, ◌≢◌, ℕ, ◌+◌, ◌<◌, ◌≤◌, ◌⊎◌, take, count_by, ◌==◌, slice_index}
use Rattle.lotos_text.proofs.position.line_column.Given as goal

-- the line and its start so far, as the definition says them of the offset that the loop has reached
abbrev pub invariant-loop-k : goal.invariant-loop-k
invariant-loop-k l = record {
  counted : l.line ≡ count_by (λ b. b == 10) (take l.k l.text) + 1;
  small : l.line ≤ l.k + 1;
  inside : l.start ≤ l.k;
  begins : (l.start ≡ 0) ⊎ ((k : ℕ) × (l.start ≡ k + 1) × (slice_index l.text k ≡ 10));
  unbroken : (k : ℕ) → l.start ≤ k → k < l.k → slice_index l.text k ≢ 10;
}
