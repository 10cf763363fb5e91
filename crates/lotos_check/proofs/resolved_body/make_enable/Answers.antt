use Rattle.std.specs.Option.{option_or}
use Rattle.std.proofs.Common.{refl, ap, ◌∙◌}
use Rattle.lotos_check.proofs.ResolvedForms.{found_enable, found_halting}
use Rattle.lotos_check.proofs.resolved_body.make_enable.Goals as goal
use Rattle.lotos_check.proofs.resolved_body.make_enable.Goals.{in-Exit, in-NoExit}

pub returns : goal.returns
returns c = λ scope gates left right h k.
    let never = c.or-2.ensures ∙ ap (λ o. option_or o c.args.second.never_exits) c.or.ensures in
    elim c.match-first.branch [
      | in-Exit w ↦ found_enable scope gates left right c.args.first c.args.second _ h k c.args.at w.in-Exit.is
          (rw c.in_ok-code.ensures refl) refl
          (rw w.here-is at never)
      | in-NoExit w ↦ found_halting scope gates left right c.args.first c.args.second _ h k c.args.at w.in-NoExit.is
          (rw c.in_ok-code.ensures refl) refl
          (rw w.here-is at never)
    ]
