-- What contracts say of a source and of a sink.
use Rattle.std.specs.Prelude.{ℕ, Bool, List, Option}

-- a source: the bytes that remain, if they are known; how many it has given since it was made, whether or not it is
-- known what remains; and whether a call has failed
pub record SourceState : Type 0 where
  pub remaining : Option (List ℕ)
  pub given : ℕ
  pub has_failed : Bool

-- a sink: the bytes that were written so far, if they are known, and whether a call has failed
pub record SinkState : Type 0 where
  pub written : Option (List ℕ)
  pub has_failed : Bool
