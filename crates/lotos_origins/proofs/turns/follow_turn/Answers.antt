use Rattle.std.proofs.Common.{◌∙◌}
use Rattle.lotos_origins.proofs.AlongRuns.{along_stays, layers_stay}
use Rattle.lotos_origins.proofs.turns.follow_turn.Goals as goal

pub follow_rest-requires-clause-layers : goal.follow_rest-requires-clause-layers
follow_rest-requires-clause-layers c =
    layers_stay c.args.table.now c.args.start c.args.turns.labels.items _ _ c.args.turn.now
    (c.as_slice.ensures.value ∙ c.in_ok-extend_from_slice.ensures.items) c.requires.count c.requires.layers

pub follow_rest-requires-clause-along : goal.follow_rest-requires-clause-along
follow_rest-requires-clause-along c =
    along_stays c.args.table.now c.args.start c.args.turns.labels.items _ _ c.args.turn.now
    (c.as_slice.ensures.value ∙ c.in_ok-extend_from_slice.ensures.items) c.requires.count c.requires.along
