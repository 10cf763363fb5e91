use Rattle.lotos_regrouping.proofs.RegroupedSteps.{regrouped_back}
use Rattle.lotos_runs.proofs.RegroupedRuns.{match_follows}
use Rattle.lotos_runs.proofs.laws.regrouped_starts_have_the_same_matches.Goals as goal

pub returns : goal.returns
returns c q kind u h run =
    (match_follows q.names q.processes q.pattern kind h run, match_follows q.names q.processes q.pattern kind (regrouped_back h) run)
