use Rattle.std.proofs.Common.{◌≡◌, ◌<◌, ◌+◌, ◌-◌, List, arith, length, refl, subst, sym}
use Rattle.std.proofs.lemmas.Option.{slice_get_read, slice_get_within}
use Rattle.lotos_check.proofs.ListIndices.{one_item}
use Rattle.lotos_terms.proofs.GrowingTables.{grows_same, grows_then}
use Rattle.lotos_origins.proofs.ListedSteps.{leads_grow}
use Rattle.lotos_origins.specs.RunLayers.{AreOriginsFrom, IsIndexAt}
use Rattle.lotos_origins.specs.declared.origin.Origin.{Origin}
use Rattle.lotos_origins.specs.declared.run_layers.Layer.{Layer}
use Rattle.lotos_origins.proofs.WaysBack.{IsReadBack, has_before, leads_from, read_more, read_none}
use Rattle.lotos_origins.proofs.followed_run.origins_back.Goals as goal

pub loop-at-init : goal.loop-at-init
loop-at-init c =
    let table = c.args.table.now in
    let run = c.args.run.now in
    let list = c.args.layers.now in
    record {
      grows = grows_same table;
      sound = c.recall_sound.ensures.sound;
      within = omega arith;
      above = c.requires.from;
      index = c.requires.end;
      read = subst (λ (os : List Origin). IsReadBack table run list c.args.end (length run) c.args.end os) (sym c.new-origins.ensures.items)
          (read_none table run list c.args.end);
    }

pub step_back-step-requires-clause-within : goal.step_back-step-requires-clause-within
step_back-step-requires-clause-within c =
    let list = c.args.layers.now in
    let below : c.loop-at.at < length list = omega (arith, c.loop-at.invariant.within, c.requires.count) in
    c.loop-at.invariant.index _ (slice_get_read list _ c.loop-at.at _ refl below c.index-layers-at-in-loop-at.is)

pub step_back-step-requires-clause-before : goal.step_back-step-requires-clause-before
step_back-step-requires-clause-before c =
    let list = c.args.layers.now in
    let at = c.loop-at.at in
    let (start, are) = c.requires.layers in
    let below : at < length list = omega (arith, c.loop-at.invariant.within, c.requires.count) in
    let lower : at - 1 < length list = omega (arith, below) in
    let next : at ≡ (at - 1) + 1 = omega (arith, c.loop-at-test.true) in
    let layer_at = slice_get_read list _ at _ refl below c.index-layers-at-in-loop-at.is in
    let earlier_at = slice_get_read list _ (at - 1) _ refl lower c.index-layers-at.is in
    has_before c.args.table.now start c.args.run.now list are (at - 1) at next c.index-layers-at.result c.index-layers-at-in-loop-at.result earlier_at layer_at
    c.loop-at.index (omega (arith, c.loop-at.invariant.within, c.loop-at-test.true)) (c.loop-at.invariant.index _ layer_at)

pub add_origin-requires : goal.add_origin-requires
add_origin-requires c =
    let list = c.args.layers.now in
    let run = c.args.run.now in
    let at = c.loop-at.at in
    let (start, are) = c.requires.layers in
    let below : at < length list = omega (arith, c.loop-at.invariant.within, c.requires.count) in
    let lower : at - 1 < length list = omega (arith, below) in
    let in_run : at - 1 < length run = omega (arith, c.loop-at.invariant.within, c.loop-at-test.true) in
    let next : at ≡ (at - 1) + 1 = omega (arith, c.loop-at-test.true) in
    let layer_at = slice_get_read list _ at _ refl below c.index-layers-at-in-loop-at.is in
    let earlier_at = slice_get_read list _ (at - 1) _ refl lower c.index-layers-at.is in
    let k_at = slice_get_read run _ (at - 1) _ refl in_run c.index-run-at.is in
    let step = c.step_back-step.ensures in
    leads_grow c.args.table.now c.loop-at.table c.loop-at.invariant.grows _ _ _
    (leads_from c.args.table.now start run list are (at - 1) at next c.index-layers-at.result c.index-layers-at-in-loop-at.result earlier_at layer_at
    c.index-run-at.result c.loop-at.index _ _ _ k_at step.index step.from step.to)

pub loop-at-preserved : goal.loop-at-preserved
loop-at-preserved c =
    let first = c.args.table.now in
    let list = c.args.layers.now in
    let run = c.args.run.now in
    let at = c.loop-at.at in
    let done = c.in_ok-add_origin.ensures in
    let (start, are) = c.requires.layers in
    let below : at < length list = omega (arith, c.loop-at.invariant.within, c.requires.count) in
    let lower : at - 1 < length list = omega (arith, below) in
    let in_run : at - 1 < length run = omega (arith, c.loop-at.invariant.within, c.loop-at-test.true) in
    let next : at ≡ (at - 1) + 1 = omega (arith, c.loop-at-test.true) in
    let layer_at = slice_get_read list _ at _ refl below c.index-layers-at-in-loop-at.is in
    let earlier_at = slice_get_read list _ (at - 1) _ refl lower c.index-layers-at.is in
    let k_at = slice_get_read run _ (at - 1) _ refl in_run c.index-run-at.is in
    let step = c.step_back-step.ensures in
    record {
      grows = grows_then first c.loop-at.table c.add_origin.new.table c.loop-at.invariant.grows done.grows;
      sound = done.sound;
      within = omega (arith, c.loop-at.invariant.within);
      above = omega (arith, c.loop-at-test.true);
      index = λ l l_at. subst (λ (z : Layer). c.step_back-step.result.index < length z.terms.items)
          (one_item list (at - 1) c.index-layers-at.result l earlier_at l_at) (slice_get_within c.index-layers-at.result.terms.items _ _ step.from);
      read = read_more first start run list are (at - 1) at next c.index-layers-at.result c.index-layers-at-in-loop-at.result earlier_at layer_at
          c.loop-at.table c.loop-at.invariant.grows c.args.end c.index-run-at.result c.loop-at.index c.step_back-step.result.index
          c.step_back-step.result.from c.step_back-step.result.to c.loop-at.origins.items c.add_origin.new.origins.items k_at step.index step.from step.to
          done.added c.loop-at.invariant.read;
    }

pub returns-clause-index : goal.returns-clause-index
returns-clause-index c =
    let end : c.loop-at.at ≡ c.args.from = omega (arith, c.loop-at-test.false, c.loop-at.invariant.above) in
    subst (λ n. IsIndexAt c.loop-at.index n c.args.layers.now) end c.loop-at.invariant.index

pub returns-clause-origins : goal.returns-clause-origins
returns-clause-origins c =
    let table = c.args.table.now in
    let run = c.args.run.now in
    let list = c.args.layers.now in
    let end : c.loop-at.at ≡ c.args.from = omega (arith, c.loop-at-test.false, c.loop-at.invariant.above) in
    subst (λ (os : List Origin). AreOriginsFrom table run list c.args.from c.loop-at.index c.args.end os) (sym c.reverse.ensures.items)
    (subst (λ n. IsReadBack table run list c.args.end n c.loop-at.index c.loop-at.origins.items) end c.loop-at.invariant.read)
