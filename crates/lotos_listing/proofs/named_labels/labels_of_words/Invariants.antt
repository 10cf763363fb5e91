use Rattle.std.proofs.Common.{map, string_bytes}
use Rattle.lotos_listing.proofs.NamedLabels.{AreLabelsOf}
use Rattle.lotos_listing.proofs.named_labels.labels_of_words.Given as goal

abbrev pub invariant-loop-word : goal.invariant-loop-word
invariant-loop-word l = AreLabelsOf l.gates (map string_bytes l.words) l.word-index l.labels.items
