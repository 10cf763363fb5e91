use Rattle.std.proofs.Common.{◌≡◌, ◌⊎◌, ◌<◌, ◌≤◌, ℕ}
use Rattle.lotos_pattern.specs.NfaStates.{HasState}
use Rattle.lotos_pattern.proofs.place.Place.last_state.Given as goal

-- no state before this one, from `least` on, comes after the last one that was found
abbrev pub invariant-loop-state : goal.invariant-loop-state
invariant-loop-state l =
    (l.least ≤ l.last) × ((k : ℕ) → k < l.state → HasState l.self k → k ≤ l.last) × ((l.last ≡ l.least) ⊎ HasState l.self l.last)
