use Rattle.std.proofs.Common.{◌-◌, ◌^◌, drop}
use Rattle.std.specs.Prelude.{All}
use Rattle.lotos_origins.specs.Likenesses.{DoAlikeAt, IsPairIn}
use Rattle.lotos_origins.proofs.Likenesses.{AllAlike}
use Rattle.lotos_origins.proofs.alike.are_alike.Given as goal

abbrev pub invariant-loop-index : goal.invariant-loop-index
invariant-loop-index l = record {
  pairs : All (IsPairIn l.table.terms) l.pairs.items;
  depends : AllAlike l.table.processes l.table.terms (drop l.index l.pairs.items) →
      DoAlikeAt l.table.processes l.table.terms (l.fn.first, l.fn.second);
}

abbrev pub decreases-loop-index : goal.decreases-loop-index
decreases-loop-index l = 2 ^ 63 - l.index
