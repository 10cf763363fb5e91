use Rattle.std.proofs.Common.{◌<◌, ℕ, get_or}
use Rattle.lotos_origins.specs.Wrappers.{AgreeAt}
use Rattle.lotos_origins.proofs.wrappers.agree_on_gates.Given as goal

abbrev pub invariant-loop-gate : goal.invariant-loop-gate
invariant-loop-gate l = (k : ℕ) → k < l.gate-index → AgreeAt l.nodes l.firsts l.seconds (get_or l.gates k 0)
