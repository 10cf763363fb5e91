use Rattle.lotos_origins.proofs.rounds.close_turns.Goals as goal

pub close_round-requires-clause-at : goal.close_round-requires-clause-at
close_round-requires-clause-at c = c.requires.bounds _ (rw c.in-Some.is at c.in_ok-repeat.ensures.at)
