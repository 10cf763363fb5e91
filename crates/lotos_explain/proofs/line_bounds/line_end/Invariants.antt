use Rattle.std.proofs.Common.{◌≢◌, ℕ, ◌-◌, ◌<◌, ◌≤◌, length, slice_index}
use Rattle.lotos_explain.proofs.line_bounds.line_end.Given as goal

-- no line feed is between the offset and the one that the loop has reached
abbrev pub invariant-loop-end : goal.invariant-loop-end
invariant-loop-end l = record {
  after : l.at ≤ l.end;
  inside : l.end ≤ length l.text;
  unbroken : (k : ℕ) → l.at ≤ k → k < l.end → slice_index l.text k ≢ 10;
}

abbrev pub decreases-loop-end : goal.decreases-loop-end
decreases-loop-end l = length l.text - l.end
