use Rattle.std.proofs.Common.{refl}
use Rattle.lotos_check.proofs.ResolvedForms.{found_disable}
use Rattle.lotos_check.proofs.resolved_body.make_disable.Goals as goal

pub returns : goal.returns
returns c = λ scope gates left right h k.
    found_disable scope gates left right c.args.first c.args.second _ h k
    (rw c.in_ok-code.ensures refl) c.exits_if_either.ensures c.or.ensures
