use Rattle.std.proofs.Common.{◌≡◌, ◌<◌, ℕ, get_or}
use Rattle.lotos_origins.specs.Contexts.{bare}
use Rattle.lotos_origins.specs.Wrappers.{within}
use Rattle.lotos_origins.proofs.wrappers.have_the_same_images.Given as goal

abbrev pub invariant-loop-index : goal.invariant-loop-index
invariant-loop-index l = (k : ℕ) → k < l.index →
    within l.nodes bare l.firsts (get_or l.gates k 0) ≡ within l.nodes bare l.seconds (get_or l.others k 0)
