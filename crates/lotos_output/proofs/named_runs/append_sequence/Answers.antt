use Rattle.std.proofs.Common.{drop}
use Rattle.std.proofs.lemmas.Result.{IfOk-weaker}
use Rattle.lotos_output.proofs.NamedLines.{first_named}
use Rattle.lotos_output.proofs.named_runs.append_sequence.Goals as goal

pub returns : goal.returns
returns c = IfOk-weaker c.append_other_steps.result _ _ (λ now written w rest named.
    first_named c.args.gates.now _ c.in-Some.others.now (drop c.args.used c.args.origins.now) (drop c.in_ok-now.now c.args.origins.now) _ _ _ c.args.run.now
    w rest (drop now c.args.origins.now) c.in-Some.ensures.cases.0 named c.in_ok-now.ensures written) c.append_other_steps.ensures
