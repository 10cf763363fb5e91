use Rattle.lotos_check.proofs.BodyResolutions.{knows_formals}
use Rattle.lotos_check.proofs.body_resolution.formal_gates.Goals as goal

pub returns : goal.returns
returns c = knows_formals (λ k. k.now) c.args.definition.now c.as_slice.result.now c.new-gates.result.keys c.add_gates.new.scope.keys
    c.as_slice.ensures.value c.new-gates.ensures.empty c.in_ok-add_gates.ensures.added
