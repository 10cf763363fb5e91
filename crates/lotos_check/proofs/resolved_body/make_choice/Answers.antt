use Rattle.std.proofs.Common.{refl}
use Rattle.lotos_check.proofs.ResolvedForms.{found_choice}
use Rattle.lotos_check.proofs.resolved_body.make_choice.Goals as goal

pub returns : goal.returns
returns c = λ scope gates left right h k.
    found_choice scope gates left right c.args.first c.args.second _ h k
    (rw c.in_ok-code.ensures refl) c.exits_if_either.ensures c.or.ensures
