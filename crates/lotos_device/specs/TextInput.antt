-- What reading a whole text returns, and how much it takes.
use Rattle.std.specs.Prelude.{◌≡◌, ℕ, ◌+◌, ◌≤◌, Bool, true, false, List, length, Option, Result, Err}
use Rattle.std.specs.Io.KnownBytes.{Consumes, IsAtEnd}
use Rattle.lotos_device.specs.DeviceStates.{SourceState}
use Rattle.lotos_device.specs.declared.text_input.ReadFault.{ReadFault}
use Rattle.lotos_device.specs.declared.text_input.ReadFault.TheVariants.{Device}

-- the text is all that was left, and has at most `limit` bytes
pub record ReadsAll (old new : Option (List ℕ)) (limit : ℕ) (text : List ℕ) : Type 0 where
  pub bytes : Consumes old new text
  pub end : IsAtEnd new
  pub within : length text ≤ limit

-- at most `n` bytes were taken
abbrev pub TakesAtMost : Option (List ℕ) → Option (List ℕ) → ℕ → Type 0
TakesAtMost old new n = (taken : List ℕ) × (length taken ≤ n) × Consumes old new taken

-- at most `n` bytes were taken, and no more were given, whatever remains
pub record TakesWithin (old new : SourceState) (n : ℕ) : Type 0 where
  pub taken : TakesAtMost old.remaining new.remaining n
  pub given : new.given ≤ old.given + n

-- exactly `n` bytes were taken
abbrev pub TakesExactly : Option (List ℕ) → Option (List ℕ) → ℕ → Type 0
TakesExactly old new n = (taken : List ℕ) × (length taken ≡ n) × Consumes old new taken

-- the result of a read is that the reader failed
abbrev pub is_device_fault : {T : Type 0} → Result T ReadFault → Bool
is_device_fault (Err Device) = true
is_device_fault _ = false
