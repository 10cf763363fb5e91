use Rattle.std.specs.Prelude.{option_map}
use Rattle.std.proofs.Common.{refl}
use Rattle.lotos_check.proofs.ResolvedForms.{found_par}
use Rattle.lotos_check.proofs.resolved_body.make_parallel.Goals as goal

pub returns : goal.returns
returns c = λ scope gates left right sync is_set given h k.
    found_par scope gates left right c.args.first c.args.second _ h k (option_map (λ v. v.items) c.args.set) sync is_set given
    (rw c.in_ok-code.ensures refl) c.exits_if_both.ensures c.or.ensures
