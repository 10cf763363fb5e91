use Rattle.std.proofs.Common.{◌≤◌, length}
use Rattle.lotos_terms.specs.TableView.{Grows, IsSoundView}
use Rattle.lotos_origins.specs.RunLayers.{IsIndexAt}
use Rattle.lotos_origins.proofs.WaysBack.{IsReadBack}
use Rattle.lotos_origins.proofs.followed_run.origins_back.Given as goal

abbrev pub invariant-loop-at : goal.invariant-loop-at
invariant-loop-at l = record {
  grows : Grows l.fn.table l.table;
  sound : IsSoundView l.table;
  within : l.at ≤ length l.run;
  above : l.fn.from ≤ l.at;
  index : IsIndexAt l.index l.at l.layers;
  read : IsReadBack l.fn.table l.run l.layers l.end l.at l.index l.origins.items;
}

abbrev pub decreases-loop-at : goal.decreases-loop-at
decreases-loop-at l = l.at
