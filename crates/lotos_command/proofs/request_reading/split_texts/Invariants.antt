use Rattle.std.proofs.Common.{◌≡◌, map, take, string_bytes}
use Rattle.lotos_command.specs.PatternWords.{pattern_words}
use Rattle.clap.specs.Walk.{texts as texts_of}
use Rattle.lotos_command.proofs.request_reading.split_texts.Given as goal

-- the words of a pattern in the texts so far were added
abbrev pub invariant-loop-text : goal.invariant-loop-text
invariant-loop-text l = map string_bytes l.all.items ≡ pattern_words (texts_of (take l.text-index l.texts))
