use Rattle.std.proofs.Common.{◌<◌, ℕ, get_or}
use Rattle.lotos_origins.specs.Wrappers.{AgreeAt}
use Rattle.lotos_origins.proofs.wrappers.agree_on_formals.Given as goal

abbrev pub invariant-loop-formal : goal.invariant-loop-formal
invariant-loop-formal l = (k : ℕ) (p : ℕ × ℕ) → k < l.formal-index → AgreeAt l.nodes l.firsts l.seconds (get_or l.pairs k p).0
