use Rattle.std.proofs.Common.{◌≡◌, ◌<◌, ℕ, get_or}
use Rattle.lotos_origins.specs.Contexts.{Context}
use Rattle.lotos_origins.specs.Wrappers.{with_wrapper}
use Rattle.lotos_origins.specs.declared.wrappers.Wrapper.{Wrapper}
use Rattle.lotos_origins.proofs.wrappers.are_equal.Given as goal

abbrev pub invariant-loop-index : goal.invariant-loop-index
invariant-loop-index l = (k : ℕ) (w v : Wrapper) → k < l.index → (c : Context) →
    with_wrapper l.nodes c (get_or l.firsts k w) ≡ with_wrapper l.nodes c (get_or l.seconds k v)
