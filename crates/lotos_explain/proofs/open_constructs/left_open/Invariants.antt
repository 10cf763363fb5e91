use Rattle.std.specs.Prelude.{◌≡◌, [], drop}
use Rattle.lotos_explain.specs.OpenConstructs.{after_tokens}
use Rattle.lotos_explain.proofs.open_constructs.left_open.Given as goal

-- what the tokens so far leave open, and then the others, is what all leave open
abbrev pub invariant-loop-token : goal.invariant-loop-token
invariant-loop-token l = after_tokens l.opened.items (drop l.token-index l.found) ≡ after_tokens [] l.found
