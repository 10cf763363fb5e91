use Rattle.lotos_origins.proofs.BisimilarRuns.{alike_backward, alike_forward}
use Rattle.lotos_origins.proofs.laws.alike_terms_have_the_same_steps.Goals as goal

pub returns-clause-forward : goal.returns-clause-forward
returns-clause-forward c = λ system t u t' k alike step.
    alike_forward system (c.steps_keep_bisimilarity.ensures.forward system) (c.steps_keep_bisimilarity.ensures.backward system) t u t' k alike step

pub returns-clause-backward : goal.returns-clause-backward
returns-clause-backward c = λ system t u u' k alike step.
    alike_backward system (c.steps_keep_bisimilarity.ensures.forward system) (c.steps_keep_bisimilarity.ensures.backward system) t u u' k alike step
