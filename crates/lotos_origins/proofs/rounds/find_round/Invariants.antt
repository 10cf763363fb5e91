use Rattle.std.proofs.Common.{◌-◌, ◌^◌, length}
use Rattle.lotos_terms.specs.TableView.{Grows, IsSoundView}
use Rattle.lotos_origins.specs.FollowedRuns.{IsFollowed}
use Rattle.lotos_origins.proofs.TurnBounds.{AreTurnsOf}
use Rattle.lotos_origins.proofs.rounds.find_round.Given as goal

abbrev pub invariant-loop-turns : goal.invariant-loop-turns
invariant-loop-turns l = record {
  grows : Grows l.fn.table l.table;
  sound : IsSoundView l.table;
  followed : IsFollowed l.table l.fn.start l.turns.labels.items l.turns.followed;
  turns : AreTurnsOf l.row l.turn l.turns.labels.items l.turns.bounds.items;
}

abbrev pub decreases-loop-turns : goal.decreases-loop-turns
decreases-loop-turns l = 2 ^ 63 - length l.turns.bounds.items
