use Rattle.std.proofs.Common.{map, string_bytes}
use Rattle.lotos_pattern.specs.Spelling.{parts_of}
use Rattle.lotos_pattern.proofs.LabelNames.{hidden_labels, seen_labels}
use Rattle.lotos_pattern.proofs.pattern_parser.kind_of_labels.Goals as goal

pub returns-then-is_hidden : goal.returns-then-is_hidden
returns-then-is_hidden c word names =
    let decided = rw c.as_slice.ensures.value at c.has_label.ensures in
    let is = hidden_labels c.args.strong c.has_label.result (map string_bytes c.args.labels.items) decided c.if-is_hidden.true in
    (record { labels = _; named = names; internal = is.1 }, is.0)

pub returns-else-is_hidden : goal.returns-else-is_hidden
returns-else-is_hidden c word names =
    let decided = rw c.as_slice.ensures.value at c.has_label.ensures in
    seen_labels c.args.strong c.has_label.result (parts_of word) (map string_bytes c.args.labels.items) decided c.if-is_hidden.false names
