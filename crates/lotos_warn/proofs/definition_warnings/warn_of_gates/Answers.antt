use Rattle.std.proofs.Common.{◌<◌, ◌≤◌, length, map, arith}
use Rattle.std.proofs.lemmas.List.{drop_all}
use Rattle.lotos_text.specs.AstOf.{definition_view}
use Rattle.lotos_check.proofs.Pairs.{drop_at}
use Rattle.lotos_warn.specs.Additions.{IsGateWarning, IsGateWarningOfAny}
use Rattle.lotos_warn.proofs.Additions.{loop_next, loop_end}
use Rattle.lotos_warn.proofs.DefinitionWarnings.{gates_split}
use Rattle.lotos_warn.proofs.definition_warnings.warn_of_gates.Goals as goal

pub loop-definition-preserved : goal.loop-definition-preserved
loop-definition-preserved c =
    let within : c.loop-definition.definition-index < length c.args.definitions.now = omega arith in
    loop_next (λ ds. IsGateWarningOfAny (map (λ d. definition_view d.now) ds)) (λ d. IsGateWarning (definition_view d.now))
    (λ d ds w. gates_split (definition_view d.now) (map (λ d. definition_view d.now) ds) w) (λ w h. h.1)
    c.args.warnings.now.items c.loop-definition.warnings.items c.warn_of_gates_in.new.warnings.items
    (IsGateWarningOfAny (map (λ d. definition_view d.now) c.args.definitions.now)) _ _ c.definition-item.result
    (drop_at c.args.definitions.now c.loop-definition.definition-index _ c.definition-item.result within c.definition-item.is)
    c.loop-definition.invariant c.in_ok-warn_of_gates_in.ensures

pub returns : goal.returns
returns c =
    let done : length c.args.definitions.now ≤ c.loop-definition.definition-index = omega arith in
    loop_end (λ ds. IsGateWarningOfAny (map (λ d. definition_view d.now) ds)) (λ d. IsGateWarning (definition_view d.now))
    (λ d ds w. gates_split (definition_view d.now) (map (λ d. definition_view d.now) ds) w) (λ w h. h.1)
    c.args.warnings.now.items c.loop-definition.warnings.items
    (IsGateWarningOfAny (map (λ d. definition_view d.now) c.args.definitions.now)) _
    (drop_all c.loop-definition.definition-index c.args.definitions.now done) c.loop-definition.invariant
