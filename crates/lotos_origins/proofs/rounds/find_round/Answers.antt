use Rattle.std.proofs.Common.{◌∙◌}
use Rattle.lotos_terms.proofs.GrowingTables.{grows_then}
use Rattle.lotos_origins.proofs.FollowedRuns.{followed_grows}
use Rattle.lotos_origins.proofs.TurnBounds.{no_turns, turn_added}
use Rattle.lotos_origins.proofs.rounds.find_round.Goals as goal

pub loop-turns-init : goal.loop-turns-init
loop-turns-init c =
    let first = c.in_ok-turns.ensures in
    record {
      grows = first.grows;
      sound = first.sound;
      followed = first.followed;
      turns = no_turns c.args.row.now c.args.turn.now _ _ first.labels first.bounds;
    }

pub close_turns-requires-clause-bounds : goal.close_turns-requires-clause-bounds
close_turns-requires-clause-bounds c =
    let more = c.in_ok-turns-2.ensures in
    let turns = turn_added c.args.row.now c.args.turn.now _ _ _ _ more.labels more.bounds c.loop-turns.invariant.turns in
    λ at there. (turns.each at there).within

pub returns-in-Some : goal.returns-in-Some
returns-in-Some c =
    let more = c.in_ok-turns-2.ensures in
    let done = c.in_ok-closed.ensures in
    let turns = turn_added c.args.row.now c.args.turn.now _ _ _ _ more.labels more.bounds c.loop-turns.invariant.turns in
    let grows = grows_then c.args.table.now c.loop-turns.table c.follow_turn.new.table c.loop-turns.invariant.grows more.grows in
    let (at, there, is) = rw c.in-Some.is at done.round in
    let bound = turns.each at there in
    record {
      grows = grows_then c.args.table.now c.follow_turn.new.table c.close_turns.new.table grows done.grows;
      sound = done.sound;
      round = record {
        before = bound.before;
        again = bound.again;
        row_is = is.row_is ∙ bound.row_is;
        turn_is = is.turn_is ∙ bound.turn_is;
        goes_round = is.goes_round;
      };
    }

pub loop-turns-preserved : goal.loop-turns-preserved
loop-turns-preserved c =
    let more = c.in_ok-turns-2.ensures in
    let done = c.in_ok-closed.ensures in
    let grows = grows_then c.args.table.now c.loop-turns.table c.follow_turn.new.table c.loop-turns.invariant.grows more.grows in
    record {
      grows = grows_then c.args.table.now c.follow_turn.new.table c.close_turns.new.table grows done.grows;
      sound = done.sound;
      followed = followed_grows c.follow_turn.new.table c.close_turns.new.table c.args.start _ _ done.grows more.followed;
      turns = turn_added c.args.row.now c.args.turn.now _ _ _ _ more.labels more.bounds c.loop-turns.invariant.turns;
    }
