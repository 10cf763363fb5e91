use Rattle.std.proofs.Common.{◌<◌, ◌≤◌, arith, length, refl}
use Rattle.std.proofs.lemmas.List.{drop_all}
use Rattle.std.proofs.lemmas.Map.Text.{hash_map_updates_str}
use Rattle.lotos_text.specs.AstOf.{definitions_view}
use Rattle.lotos_check.proofs.Pairs.{drop_at}
use Rattle.lotos_check.proofs.Bindings.{built_with, built_all}
use Rattle.lotos_check.proofs.process_scope.bind_definitions.Goals as goal

pub loop-definition-preserved : goal.loop-definition-preserved
loop-definition-preserved c =
    let updates = hash_map_updates_str c.text.result.now c.loop-definition.bindings c.insert.new.self _ c.in_ok-insert.ensures.updates in
    let within : c.loop-definition.definition-index < length c.args.definitions.now = omega arith in
    built_with (definitions_view c.args.definitions.now) c.args.first _ _ c.loop-definition.process _ c.text.result.now updates
    c.definition-item.result _ _ c.count_inner.result c.text.ensures.bytes refl refl
    (drop_at c.args.definitions.now c.loop-definition.definition-index _ c.definition-item.result within c.definition-item.is)
    c.count_inner.ensures c.loop-definition.invariant

pub returns : goal.returns
returns c =
    let done : length c.args.definitions.now ≤ c.loop-definition.definition-index = omega arith in
    built_all (definitions_view c.args.definitions.now) c.args.first c.loop-definition.process (λ k. k.now) c.loop-definition.bindings _
    (drop_all c.loop-definition.definition-index c.args.definitions.now done) c.loop-definition.invariant
