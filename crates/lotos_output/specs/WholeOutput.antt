-- How a command ends that writes all at once.
use Rattle.std.specs.Prelude.{ℕ, List, Option}
use Rattle.std.specs.Io.KnownBytes.{Appends}
use Rattle.lotos_device.specs.ByteOutput.{AppendsBeginning}
use Rattle.lotos_outcome.specs.declared.outcome.Ended.{Ended}
use Rattle.lotos_outcome.specs.declared.outcome.Ended.TheVariants.{Done, Stopped}
use Rattle.lotos_outcome.specs.declared.outcome.Stop.TheVariants.{Write}

-- the bytes were written, and it is done with what it found; or the output failed after a prefix of them, perhaps all,
-- and it stopped at this place
pub data EndsWhole {F P : Type 0} (bytes : List ℕ) (found : F) (place : P) (got got' : Option (List ℕ))
    : Ended F P → Type 0 where
  done : Appends got got' bytes → EndsWhole bytes found place got got' (Done found)
  broken_off : AppendsBeginning got got' bytes → EndsWhole bytes found place got got' (Stopped Write place)
