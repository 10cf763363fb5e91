use Rattle.std.proofs.Common.{◌≡◌, map, string_bytes, take}
use Rattle.lotos_pattern.proofs.label_set.copied_labels.Given as goal

-- the labels before the index are copied
abbrev pub invariant-loop-label : goal.invariant-loop-label
invariant-loop-label l = map string_bytes l.copy.items ≡ take l.label-index (map string_bytes l.labels)
