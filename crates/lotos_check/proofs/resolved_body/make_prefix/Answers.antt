use Rattle.std.proofs.Common.{refl}
use Rattle.lotos_check.proofs.ResolvedForms.{found_prefix}
use Rattle.lotos_check.proofs.resolved_body.make_prefix.Goals as goal

pub returns : goal.returns
returns c = λ scope gates action body same given h.
    found_prefix scope gates action body c.args.inner _ given h (rw (c.in_ok-code.ensures, same) refl) refl refl
