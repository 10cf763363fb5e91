use Rattle.std.proofs.Common.{◌+◌, take}
use Rattle.lotos_origins.specs.RunLayers.{AreOriginsFrom, AreOriginsTo, IsIndexAt}
use Rattle.lotos_origins.proofs.AlongRuns.{layers_grow}
use Rattle.lotos_origins.proofs.ClosedRounds.{closes, first_layers_of, index_in_first, round_at}
use Rattle.lotos_origins.proofs.FollowedRuns.{followed_grows, index_within}
use Rattle.lotos_origins.proofs.rounds.close_round.Goals as goal

pub origins_back-requires-clause-layers : goal.origins_back-requires-clause-layers
origins_back-requires-clause-layers c =
    (c.args.start, rw c.as_slice-layers.ensures.value (rw c.as_slice-labels.ensures.value c.requires.followed.layers))

pub origins_back-requires-clause-end : goal.origins_back-requires-clause-end
origins_back-requires-clause-end c =
    rw c.as_slice-layers.ensures.value (rw c.as_slice-labels.ensures.value
    (index_within c.args.table.now c.args.start _ _ c.requires.followed c.args.repeat.end c.requires.end))

pub do_alike-requires : goal.do_alike-requires
do_alike-requires c =
    let first = c.args.table.now in
    let now = c.origins_back.new.table in
    let labels = c.args.turns.now.labels.items in
    (c.args.start, labels, followed_grows first now c.args.start labels _ c.in_ok-back.ensures.grows c.requires.followed)

pub origins_along-requires-clause-layers : goal.origins_along-requires-clause-layers
origins_along-requires-clause-layers c =
    let first = c.args.table.now in
    let now = c.origins_back.new.table in
    let labels = c.args.turns.now.labels.items in
    let layers = c.args.turns.now.followed.layers.items in (
      c.args.start,
      rw c.as_slice-layers.ensures.value (rw c.as_slice-labels.ensures.value
          (first_layers_of now c.args.start labels layers c.args.repeat.at
          (layers_grow first now c.in_ok-back.ensures.grows c.args.start labels layers c.requires.followed.layers))),
    )

pub origins_along-requires-clause-end : goal.origins_along-requires-clause-end
origins_along-requires-clause-end c =
    let labels = c.args.turns.now.labels.items in
    let layers = c.args.turns.now.followed.layers.items in
    let below = rw c.as_slice-layers.ensures.value at c.in_ok-back.ensures.index in
    rw c.as_slice-layers.ensures.value (rw c.as_slice-labels.ensures.value
    (index_in_first labels layers c.args.repeat.at c.requires.at c.in_ok-back.back.index below))

pub returns-clause-round : goal.returns-clause-round
returns-clause-round c =
    let first = c.args.table.now in
    let now = c.origins_back.new.table in
    let last = c.origins_along.new.table in
    let labels = c.args.turns.now.labels.items in
    let followed = c.args.turns.now.followed in
    let at = c.args.repeat.at in
    let end = c.args.repeat.end in
    let index = c.in_ok-back.back.index in
    let before = c.in_ok-row_origins.row_origins.items in
    let around = c.in_ok-back.back.origins.items in
    let labels_are = c.as_slice-labels.ensures.value in
    let layers_are = c.as_slice-layers.ensures.value in
    let back = c.in_ok-back.ensures in
    let below : IsIndexAt index at followed.layers.items = rw layers_are at back.index in
    let turn : AreOriginsFrom first labels followed.layers.items at index end around =
    rw layers_are at (rw labels_are at back.origins) in
    let row : AreOriginsTo now (take at labels) (take (at + 1) followed.layers.items) index before =
    rw layers_are at (rw labels_are at c.in_ok-row_origins.ensures.origins) in
    let alike = rw labels_are at (c.in_ok-do_alike.ensures c.if-not-branch.false) in
    round_at last c.args.start labels at _ (rw labels_are at c.in_ok-row.ensures.first) (rw labels_are at c.in_ok-row.ensures.others)
    (closes first c.args.start labels followed c.requires.followed at index end c.requires.at below c.requires.end now last back.grows
    c.in_ok-row_origins.ensures.grows before around c.alike_terms_go_round.ensures turn alike row)
