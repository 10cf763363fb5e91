use Rattle.std.proofs.Common.{ℕ, ◌*◌, ◌≤◌, ◌<◌}
use Rattle.lotos_pattern.specs.NfaStates.{HasState}
use Rattle.lotos_pattern.proofs.place.Place.first_state_from.Given as goal

-- the words before this one have no state
abbrev pub invariant-loop-later : goal.invariant-loop-later
invariant-loop-later l = (j : ℕ) → l.state ≤ j → j < l.later * 64 → HasState l.self j → ⊥
