use Rattle.std.proofs.Common.{◌≡◌, ◌≤◌, length, take}
use Rattle.lotos_origins.specs.Contexts.{bare}
use Rattle.lotos_origins.specs.Wrappers.{within}
use Rattle.lotos_origins.proofs.wrappers.image.Given as goal

abbrev pub invariant-loop-left : goal.invariant-loop-left
invariant-loop-left l = record {
  below : l.left ≤ length l.wrappers;
  shown : within l.nodes bare l.wrappers l.fn.gate ≡ within l.nodes bare (take l.left l.wrappers) l.inner;
}

abbrev pub decreases-loop-left : goal.decreases-loop-left
decreases-loop-left l = l.left
