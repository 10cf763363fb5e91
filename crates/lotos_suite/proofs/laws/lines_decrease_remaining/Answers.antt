use Rattle.lotos_suite.proofs.CoverBounds.{line_lowers}
use Rattle.lotos_suite.proofs.laws.lines_decrease_remaining.Goals as goal

pub returns : goal.returns
returns c q closed cursor s listed after =
    let b = q.behaviour in
    line_lowers q (λ r. c.forms_are_reached_by_derivations.ensures.observed b.names b.processes closed b.strong b.start r) s listed cursor after
