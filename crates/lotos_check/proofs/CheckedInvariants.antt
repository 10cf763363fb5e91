-- The invariant of a checked specification, truncated.
use Rattle.std.proofs.Common.{◌≡◌, ℕ, ◌<◌, List, Some, length, slice_get, get_or, refl, arith}
use Rattle.std.proofs.Math.Logic.{∥∥₁_elim}
use Rattle.std.proofs.lemmas.Option.{slice_get_read}
use Rattle.std.specs.Coded.{le_prop}
use Rattle.lotos_check.specs.Flat.{System}
use Rattle.lotos_check.specs.CheckedInvariant.{IsCheckedSystem}

-- there is a rank for each process
pub ranked_within : (system : System) (ranks : List ℕ) (p : ℕ) → ∥ IsCheckedSystem system ranks ∥₁ → p < length system.processes → p < length ranks
ranked_within system ranks p kept h =
    ∥∥₁_elim {P = p < length ranks} kept le_prop (λ k. let all = k.ranked.all in omega arith)

-- what is read of the ranks at a process is its rank
pub rank_read : (system : System) (ranks : List ℕ) (p rank : ℕ) → ∥ IsCheckedSystem system ranks ∥₁ → p < length system.processes →
    rank ≡ get_or ranks p rank → slice_get ranks p ≡ Some rank
rank_read system ranks p rank kept h e = slice_get_read ranks (length ranks) p rank refl (ranked_within system ranks p kept h) e
