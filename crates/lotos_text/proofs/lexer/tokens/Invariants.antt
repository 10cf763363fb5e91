use Rattle.std.proofs.Common.{◌-◌, length}
use Rattle.lotos_text.proofs.LexingSteps.{Reached}
use Rattle.lotos_text.proofs.lexer.tokens.Given as goal

-- up to the offset the text lexes to the tokens so far
abbrev pub invariant-loop-at : goal.invariant-loop-at
invariant-loop-at l = Reached l.text l.at l.found.items

abbrev pub decreases-loop-at : goal.decreases-loop-at
decreases-loop-at l = length l.text - l.at
