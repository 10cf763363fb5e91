use Rattle.std.proofs.Common.{map, string_bytes, take, true}
use Rattle.lotos_pattern.specs.Spelling.{NamesEach, texts_of}
use Rattle.lotos_pattern.proofs.pattern_parser.printed_labels.Given as goal

-- the names before the index name the labels so far
abbrev pub invariant-loop-name : goal.invariant-loop-name
invariant-loop-name l = NamesEach true (take l.name-index (texts_of l.names)) (map string_bytes l.labels.items)
