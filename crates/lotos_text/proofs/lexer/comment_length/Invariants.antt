use Rattle.std.proofs.Common.{◌-◌, length}
use Rattle.lotos_text.proofs.Comments.{NoneBefore}
use Rattle.lotos_text.proofs.lexer.comment_length.Given as goal

-- no comment closes before the offset
abbrev pub invariant-loop-at : goal.invariant-loop-at
invariant-loop-at l = NoneBefore l.text l.at

abbrev pub decreases-loop-at : goal.decreases-loop-at
decreases-loop-at l = length l.text - l.at
