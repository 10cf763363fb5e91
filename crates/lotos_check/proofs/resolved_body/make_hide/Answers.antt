use Rattle.std.proofs.Common.{refl}
use Rattle.lotos_check.proofs.ResolvedForms.{found_hide}
use Rattle.lotos_check.proofs.resolved_body.make_hide.Goals as goal

pub returns : goal.returns
returns c = λ scope known body h.
    found_hide scope known c.args.gates.now c.in_ok-gates.gates.items body c.args.inner _ c.in_ok-gates.ensures h
    (rw c.in_ok-code.ensures refl) refl refl
