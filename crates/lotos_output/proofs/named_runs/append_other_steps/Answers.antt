use Rattle.std.proofs.Common.{◌∙◌, ap, drop, ◌+◌, ◌++◌}
use Rattle.lotos_output.proofs.FormattedLines.{left_from}
use Rattle.lotos_output.proofs.NamedLines.{step_behind, step_left, steps_done}
use Rattle.lotos_output.proofs.named_runs.append_other_steps.Goals as goal

pub append_step-requires : goal.append_step-requires
append_step-requires c =
    let labels = c.args.labels.now in
    let index = c.loop-label.label-index in
    step_left c.args.gates.now _ (drop (index + 1) labels) c.label-item.result _ _ _ c.requires.1
    (left_from labels index c.label-item.result c.loop-label-test.true c.label-item.is) (c.loop-label.invariant c.requires.0 c.requires.1 c.requires.2)

pub loop-label-preserved : goal.loop-label-preserved
loop-label-preserved c = λ texts rest named.
    let labels = c.args.labels.now in
    let index = c.loop-label.label-index in
    step_behind c.args.gates.now _ (drop (index + 1) labels) c.label-item.result _ _ _ _ _ rest
    (left_from labels index c.label-item.result c.loop-label-test.true c.label-item.is)
    (λ shown os step. let (same, grown) = c.in_ok-now.ensures shown os step in (same, grown ∙ ap (λ b. b ++ shown) c.in_ok-push_str.ensures.bytes))
    (c.loop-label.invariant texts rest named)

pub returns : goal.returns
returns c = λ texts rest named.
    steps_done c.args.gates.now c.args.labels.now c.loop-label.label-index _ _ _ rest c.loop-label-test.false (c.loop-label.invariant texts rest named)
