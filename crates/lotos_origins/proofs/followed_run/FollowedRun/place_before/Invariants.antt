use Rattle.lotos_origins.proofs.followed_run.FollowedRun.place_before.Given as goal

abbrev pub decreases-loop-before : goal.decreases-loop-before
decreases-loop-before l = l.before.count
