use Rattle.std.proofs.Common.{◌≡◌, drop}
use Rattle.lotos_pattern.specs.EverPatterns.{kind_of_words}
use Rattle.lotos_pattern.specs.Spelling.{texts_of}
use Rattle.lotos_pattern.proofs.ever_pattern.kind_of_words.Given as goal

abbrev pub invariant-loop-word : goal.invariant-loop-word
invariant-loop-word l = kind_of_words (texts_of l.words) ≡ kind_of_words (drop l.word-index (texts_of l.words))
