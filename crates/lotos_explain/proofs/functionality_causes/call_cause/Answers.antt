use Rattle.lotos_explain.proofs.FunctionalityCauses.{call_caused}
use Rattle.lotos_explain.proofs.functionality_causes.call_cause.Goals as goal

pub returns : goal.returns
returns c = λ scope gates h.
    call_caused scope c.args.name gates c.in_ok-definition.definition.now (c.in_ok-definition.ensures scope h)
