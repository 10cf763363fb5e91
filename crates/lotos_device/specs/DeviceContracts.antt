-- What a call of a source or a sink does to the bytes of the device, and to its flag.
use Rattle.std.specs.Prelude.{◌≡◌, ℕ, ◌+◌, ◌<◌, ◌≤◌, Bool, List, length, take, Result, MatchResult, Option, is_err, ◌||◌}
use Rattle.std.specs.Io.KnownBytes.{Keeps, Appends, Consumes, IsAtEnd}

-- a read that returns `n` moved `n` bytes from the front of those left to the front of the buffer, and none into a
-- buffer that is not empty only if none are left; a failure leaves all that was left
abbrev pub Reads : {E : Type 0} → Option (List ℕ) → Option (List ℕ) → Result ℕ E → List ℕ → Type 0
Reads old new r into = MatchResult r
    (λ n. (n ≤ length into) × Consumes old new (take n into) × (n ≡ 0 → 0 < length into → IsAtEnd new))
    (λ _. Keeps old new)

-- how many bytes a source has given since it was made: a read that returns `n` gave `n` more; a failure gave none
abbrev pub CountsGiven : {E : Type 0} → ℕ → ℕ → Result ℕ E → Type 0
CountsGiven old new r = MatchResult r (λ n. new ≡ old + n) (λ _. new ≡ old)

-- a write that returns `n` took `n` bytes from the front of the slice, at least one if there is one; a failure took
-- none
abbrev pub Accepts : {E : Type 0} → Option (List ℕ) → Option (List ℕ) → Result ℕ E → List ℕ → Type 0
Accepts old new r bytes = MatchResult r
    (λ n. (n ≤ length bytes) × Appends old new (take n bytes) × (0 < length bytes → 0 < n))
    (λ _. Keeps old new)

-- the flag of the device is set if the call failed, and nothing clears it
abbrev pub SetsFailed : {T E : Type 0} → Bool → Bool → Result T E → Type 0
SetsFailed old new r = new ≡ old || is_err r
