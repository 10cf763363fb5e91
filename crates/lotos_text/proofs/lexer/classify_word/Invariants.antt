use Rattle.std.proofs.Common.{drop}
use Rattle.lotos_text.proofs.Reserved.{Left}
use Rattle.lotos_text.proofs.lexer.classify_word.Given as goal

-- the entries that are left decide
abbrev pub invariant-loop-word : goal.invariant-loop-word
invariant-loop-word l = Left (drop l.word-index l.word-items) l.found
