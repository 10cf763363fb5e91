use Rattle.std.proofs.Common.{◌≡◌, map, take, string_bytes}
use Rattle.lotos_pattern.specs.Spelling.{texts_of}
use Rattle.lotos_outcome.proofs.question_parts.borrow_texts.Given as goal

-- the texts so far are the words before the index
abbrev pub invariant-loop-word : goal.invariant-loop-word
invariant-loop-word l = texts_of l.texts.items ≡ map string_bytes (take l.word-index l.words)
