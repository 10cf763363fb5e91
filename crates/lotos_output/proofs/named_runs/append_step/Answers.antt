use Rattle.std.proofs.Common.{◌∙◌, arith, subst, sym}
use Rattle.lotos_output.specs.NamedRuns.{IsOriginText}
use Rattle.lotos_output.proofs.NamedLines.{at_index, cut_inner, within}
use Rattle.lotos_output.proofs.named_runs.append_step.Goals as goal

pub unreachable-requires : goal.unreachable-requires
unreachable-requires c =
    let (text, rest, step) = c.requires in
    let (o, is, made) = cut_inner c.args.gates.now c.args.label _ text rest c.in-Internal.is step in
    let below = within c.args.origins.now c.args.used o rest is in
    omega (arith, below, c.if-origins-used.true)

pub append_origin-requires : goal.append_origin-requires
append_origin-requires c =
    let (text, rest, step) = c.requires in
    let (o, is, made) = cut_inner c.args.gates.now c.args.label _ text rest c.in-Internal.is step in
    let (here, later) = at_index c.args.origins.now c.args.used o _ rest is in
    (text, subst (λ x. IsOriginText c.args.gates.now x text) (here ∙ sym c.index-origins-used.is) made)

pub returns-in-Internal : goal.returns-in-Internal
returns-in-Internal c = λ text rest step.
    let (o, is, made) = cut_inner c.args.gates.now c.args.label _ text rest c.in-Internal.is step in
    let (here, later) = at_index c.args.origins.now c.args.used o _ rest is in
    (later, c.in_ok-append_origin.ensures text (subst (λ x. IsOriginText c.args.gates.now x text) (here ∙ sym c.index-origins-used.is) made))
