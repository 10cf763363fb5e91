use Rattle.std.proofs.Common.{◌≡◌, List, ◌++◌, map, string_bytes}
use Rattle.clap.specs.Words.{Text}
use Rattle.lotos_command.specs.PatternWords.{parts_between_blanks}
use Rattle.lotos_command.proofs.SplitWords.{Yields}
use Rattle.lotos_command.proofs.request_reading.push_parts.Given as goal

-- the words so far, and the parts that the iterator still yields, are all
abbrev pub invariant-loop-part : goal.invariant-loop-part
invariant-loop-part l = (rest : List Text) × Yields l.part-iterator rest ×
    (map string_bytes l.all.items ++ rest ≡ map string_bytes l.initial.all.items ++ parts_between_blanks l.text)
