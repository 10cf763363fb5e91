use Rattle.std.proofs.Common.{◌≡◌, ℕ, ◌<◌, [], get_or, map, string_bytes}
use Rattle.lotos_pattern.proofs.label_set.has_label.Given as goal

-- none of the labels before the index is the label
abbrev pub invariant-loop-index : goal.invariant-loop-index
invariant-loop-index l = (k : ℕ) → k < l.index → get_or (map string_bytes l.labels) k [] ≡ l.label → ⊥
