use Rattle.lotos_origins.proofs.FollowedRuns.{followed_grows}
use Rattle.lotos_origins.proofs.laws.followed_runs_grow.Goals as goal

pub returns : goal.returns
returns c = λ old new start run followed grows is. followed_grows old new start run followed grows is
