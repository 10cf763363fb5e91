use Rattle.std.proofs.Common.{◌≡◌, ℕ, ◌<◌, [], get_or}
use Rattle.lotos_listing.proofs.named_labels.find_gate.Given as goal

-- none of the gates before the index has the name
abbrev pub invariant-loop-number : goal.invariant-loop-number
invariant-loop-number l = (k : ℕ) → k < l.number → get_or l.gates k [] ≡ l.name → ⊥
