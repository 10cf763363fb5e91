use Rattle.std.proofs.Common.{◌≡◌, map, take}
use Rattle.lotos_pattern.specs.EverPatterns.{word_for_refusal}
use Rattle.lotos_pattern.specs.Spelling.{texts_of}
use Rattle.lotos_pattern.proofs.ever_pattern.words_for_refusal.Given as goal

abbrev pub invariant-loop-word : goal.invariant-loop-word
invariant-loop-word l = texts_of l.for_refusal.items ≡ map word_for_refusal (take l.word-index (texts_of l.words))
