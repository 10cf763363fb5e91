use Rattle.std.proofs.Common.{◌≡◌, ◌⊎◌, ◌<◌, ◌≤◌, ℕ}
use Rattle.lotos_pattern.specs.CompiledPatterns.{IsPlaceAt}
use Rattle.lotos_pattern.specs.NfaStates.{HasState, Place}
use Rattle.lotos_pattern.proofs.compiled_pattern.CompiledPattern.most_done.Given as goal

-- no place before this one has a state after `most`
abbrev pub invariant-loop-number : goal.invariant-loop-number
invariant-loop-number l =
    ((n k : ℕ) (place : Place) → n < l.number → IsPlaceAt l.self n place → k < 257 → HasState place k → k ≤ l.most)
    × ((l.most ≡ 0) ⊎ ((n : ℕ) × (place : Place) × IsPlaceAt l.self n place × HasState place l.most))
