use Rattle.lotos_origins.proofs.StoredOrigins.{origin_kept}
use Rattle.lotos_origins.proofs.laws.origins_stay_in_table.Goals as goal

pub returns : goal.returns
returns c = λ held sound t u o is step.
    origin_kept held sound.processes (λ x y k over taken. c.steps_stay_in_table.ensures.label held sound x y k over taken) step is
