use Rattle.std.proofs.Common.{◌≡◌, ℕ, ◌<◌, List, Some, map, string_bytes}
use Rattle.std.specs.Prelude.{slice_get}
use Rattle.lotos_listing.specs.NamedLabels.{HasGate}
use Rattle.alloc_retries.proofs.after_calls.have_gates.Given as goal

-- each word before the index names one of the gates, or no gate
abbrev pub invariant-loop-word : goal.invariant-loop-word
invariant-loop-word l = (k : ℕ) (word : List ℕ) → k < l.word-index → slice_get (map string_bytes l.words) k ≡ Some word → HasGate l.gates word
