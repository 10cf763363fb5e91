-- The ranks of the processes, read one after another.
use Rattle.std.proofs.Common.{◌≡◌, ◌+◌, ◌<◌, ◌++◌, ℕ, suc, List, [], ◌∷◌, Option, Some, None, map, length, drop, get_or, append_assoc, arith}
use Rattle.std.specs.Prelude.{slice_get}
use Rattle.std.proofs.Math.Seq.{drop-cons}
use Rattle.std.proofs.lemmas.List.{map-append}
use Rattle.std.proofs.lemmas.Option.{slice_get-get_or}

-- the ranks found and the rest of the list make up the list, also with one more rank
pub one_more : (found : List ℕ) (n k : ℕ) (ranks : List (Option ℕ)) → k < length ranks → get_or ranks k None ≡ Some n →
    map Some found ++ drop k ranks ≡ ranks → map Some (found ++ n ∷ []) ++ drop (k + 1) ranks ≡ ranks
one_more found n k ranks h e all =
    let step : suc k ≡ k + 1 = omega arith in
    let next : drop k ranks ≡ Some n ∷ drop (k + 1) ranks = rw (e, step) at (drop-cons ranks k None h) in
    let split : map Some (found ++ n ∷ []) ≡ map Some found ++ Some n ∷ [] = map-append Some found (n ∷ []) in
    let joined : map Some found ++ Some n ∷ drop (k + 1) ranks ≡ ranks = rw next at all in
    rw (split, append_assoc (map Some found) (Some n ∷ []) (drop (k + 1) ranks)) joined

-- where each process has a rank, none is passed over
pub none_missing : (k : ℕ) (ranks : List (Option ℕ)) → k < length ranks → get_or ranks k None ≡ None →
    ((p : ℕ) → slice_get ranks p ≡ Some None → ⊥) → ⊥
none_missing k ranks h e all = all k (rw e at (slice_get-get_or ranks k None h))
