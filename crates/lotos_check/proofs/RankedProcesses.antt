-- Whether a process has a rank, by its number.
use Rattle.std.proofs.Common.{◌≡◌, ◌<◌, ℕ, List, Option, Some, None, true, false, length, get_or, refl}
use Rattle.std.proofs.lemmas.Option.{slice_get-get_or}
use Rattle.std.specs.Prelude.{slice_get}
use Rattle.std.specs.Option.{is_some}

-- an option has a number if `is_some` is true of it
number_in : (v : Option ℕ) → is_some v ≡ true → (s : ℕ) × (v ≡ Some s)
number_in None e = cc
number_in (Some s) e = (s, refl)

-- an option is `None` if `is_some` is false of it
nothing_in : (v : Option ℕ) → is_some v ≡ false → v ≡ None
nothing_in None e = refl
nothing_in (Some s) e = cc

-- where a rank is read, the process has it
pub numbered_at : (ranks : List (Option ℕ)) (k : ℕ) → k < length ranks → is_some (get_or ranks k None) ≡ true →
    (s : ℕ) × (slice_get ranks k ≡ Some (Some s))
numbered_at ranks k h e =
    let found = number_in (get_or ranks k None) e in
    (found.0, rw (← found.1) (slice_get-get_or ranks k None h))

-- where none is read, the process has none
pub unnumbered_at : (ranks : List (Option ℕ)) (k : ℕ) → k < length ranks → is_some (get_or ranks k None) ≡ false →
    slice_get ranks k ≡ Some None
unnumbered_at ranks k h e =
    let found = slice_get-get_or ranks k None h in
    rw (nothing_in (get_or ranks k None) e) at found

-- a process where a rank is read does not wait
pub number_there : (ranks : List (Option ℕ)) (k : ℕ) → k < length ranks → is_some (get_or ranks k None) ≡ true →
    slice_get ranks k ≡ Some None → ⊥
number_there ranks k h e waits = let found = numbered_at ranks k h e in let there = found.1 in cc
