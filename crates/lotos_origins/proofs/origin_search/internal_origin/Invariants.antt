use Rattle.std.proofs.Common.{◌<◌, ◌+◌, ◌*◌, length}
use Rattle.lotos_terms.specs.TableView.{Grows, IsSoundView}
use Rattle.lotos_normal.specs.ProcessBodies.{HasBodiesBelow}
use Rattle.lotos_origins.specs.OriginSearch.{IsOriginIn, LeadsInternally}
use Rattle.lotos_origins.specs.declared.origin.Origin.{Origin}
use Rattle.lotos_origins.proofs.origin_search.internal_origin.Given as goal

abbrev pub invariant-loop-found : goal.invariant-loop-found
invariant-loop-found l = record {
  grows : Grows l.fn.table l.table;
  sound : IsSoundView l.table;
  leads : LeadsInternally l.table l.from l.to;
  passes : (o : Origin) → IsOriginIn l.table l.from l.to o → IsOriginIn l.fn.table l.fn.term l.fn.target o;
  bodies : HasBodiesBelow l.table (length l.fn.table.terms);
  below : l.from < length l.fn.table.terms;
}

abbrev pub decreases-loop-found : goal.decreases-loop-found
decreases-loop-found l = l.to * length l.fn.table.terms + l.from
