use Rattle.lotos_origins.specs.Contexts.{bare}
use Rattle.lotos_origins.proofs.GoingRound.{goes_round}
use Rattle.lotos_origins.proofs.laws.alike_terms_go_round.Goals as goal

pub returns : goal.returns
returns c = λ system t x y row turn before around first once alike.
    goes_round system (c.alike_steps_have_the_same_origins.ensures.step system bare bare) t x y row turn before around first once alike
