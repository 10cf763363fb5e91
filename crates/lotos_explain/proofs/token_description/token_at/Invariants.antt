use Rattle.std.proofs.Common.{take}
use Rattle.lotos_explain.specs.Descriptions.{IsNoneAt}
use Rattle.lotos_explain.proofs.token_description.token_at.Given as goal

-- none of the tokens so far is at the offset
abbrev pub invariant-loop-token : goal.invariant-loop-token
invariant-loop-token l = IsNoneAt (take l.token-index l.found) l.at
