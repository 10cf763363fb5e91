use Rattle.lotos_terms.proofs.GrowingTables.{grows_then}
use Rattle.lotos_origins.proofs.OriginTurns.{bodies_grow, found_inner, found_made, pair_falls, was_origin}
use Rattle.lotos_origins.proofs.origin_search.internal_origin.Goals as goal

pub returns-in-Made-clause-origin : goal.returns-in-Made-clause-origin
returns-in-Made-clause-origin c =
    let now = c.loop-found.table in
    let new = c.look_inside.new.table in
    let so_far = c.loop-found.invariant in
    let done = c.in_ok-found.ensures in
    so_far.passes _ (was_origin now new done.grows c.loop-found.from c.loop-found.to so_far.leads _
    (found_made new c.loop-found.from c.loop-found.to _ _ c.in-Made.is done.found))

pub loop-found-smaller : goal.loop-found-smaller
loop-found-smaller c =
    let now = c.loop-found.table in
    let new = c.look_inside.new.table in
    let so_far = c.loop-found.invariant in
    let done = c.in_ok-found.ensures in
    let inner = found_inner new c.loop-found.from c.loop-found.to _ _ _ c.in-Inner.is done.found in
    pair_falls _ _ _ _ _ (inner.below _ (bodies_grow now new _ done.grows so_far.bodies) so_far.below) inner.falls

pub loop-found-preserved : goal.loop-found-preserved
loop-found-preserved c =
    let now = c.loop-found.table in
    let new = c.look_inside.new.table in
    let so_far = c.loop-found.invariant in
    let done = c.in_ok-found.ensures in
    let inner = found_inner new c.loop-found.from c.loop-found.to _ _ _ c.in-Inner.is done.found in
    let bodies = bodies_grow now new _ done.grows so_far.bodies in
    record {
      grows = grows_then c.args.table.now now new so_far.grows done.grows;
      sound = done.sound;
      leads = inner.leads;
      passes = λ o is. so_far.passes o (was_origin now new done.grows c.loop-found.from c.loop-found.to so_far.leads o (inner.passes o is));
      bodies = bodies;
      below = inner.below _ bodies so_far.below;
    }
