use Rattle.std.proofs.Common.{◌<◌, ℕ, get_or}
use Rattle.lotos_origins.specs.Wrappers.{AgreeOn}
use Rattle.lotos_origins.specs.declared.wrappers.Wrapper.{Wrapper}
use Rattle.lotos_origins.proofs.wrappers.agree_on_all.Given as goal

abbrev pub invariant-loop-wrapper : goal.invariant-loop-wrapper
invariant-loop-wrapper l = (k : ℕ) (w : Wrapper) → k < l.wrapper-index → AgreeOn l.nodes l.firsts l.seconds (get_or l.wrappers k w)
