use Rattle.lotos_pattern.proofs.NfaTransitions.{states_begin}
use Rattle.lotos_pattern.proofs.PlacesOfPrefixes.{begins, some_matched}
use Rattle.lotos_pattern.proofs.pattern.Pattern.begin.Goals as goal

pub returns-clause-begins : goal.returns-clause-begins
returns-clause-begins c = begins _ _ _ c.empty-place.ensures.none c.add.ensures.states

pub returns-clause-viable : goal.returns-clause-viable
returns-clause-viable c = some_matched _ c.recall_observable.ensures

pub returns-clause-states : goal.returns-clause-states
returns-clause-states c = states_begin c.args.self.now _ _ c.empty-place.ensures.none c.add.ensures.states
