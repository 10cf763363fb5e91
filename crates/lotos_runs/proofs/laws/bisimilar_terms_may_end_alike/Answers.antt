use Rattle.lotos_normal.specs.Bisimilarity.{AreBisimilar}
use Rattle.lotos_listing.specs.Question.{PrintedStep}
use Rattle.lotos_runs.proofs.BisimilarityLaws.{ends_alike, printed_back, printed_on}
use Rattle.lotos_runs.proofs.laws.bisimilar_terms_may_end_alike.Goals as goal

pub returns : goal.returns
returns c q kind t u alike =
    let ends = ends_alike (PrintedStep q.names q.processes) (AreBisimilar q.processes)
    (printed_on q.names q.processes c.steps_keep_bisimilarity.ensures.forward)
    (printed_back q.names q.processes c.steps_keep_bisimilarity.ensures.backward) kind q.pattern in
    (ends.forth t u alike, ends.back t u alike)
