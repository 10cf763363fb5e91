use Rattle.std.proofs.Common.{◌≡◌, List, ◌++◌}
use Rattle.lotos_pattern.proofs.SplitNames.{Yields}
use Rattle.lotos_pattern.specs.Spelling.{Text, parts_of, texts_of}
use Rattle.lotos_pattern.proofs.label_names.split_names.Given as goal

-- the parts so far, and those that the iterator still yields, are all
abbrev pub invariant-loop-name : goal.invariant-loop-name
invariant-loop-name l = (rest : List Text) × Yields l.name-iterator rest ×
    (texts_of l.names.items ++ rest ≡ parts_of l.word)
