use Rattle.std.proofs.Common.{map, string_bytes}
use Rattle.lotos_pattern.proofs.LabelWords.{AreNamed}
use Rattle.lotos_pattern.proofs.label_words.check_label_words.Given as goal

-- the words before the index name labels
abbrev pub invariant-loop-index : goal.invariant-loop-index
invariant-loop-index l = AreNamed l.strong (map string_bytes l.words) l.index
