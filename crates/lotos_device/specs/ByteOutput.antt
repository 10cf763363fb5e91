-- What is written of a text.
use Rattle.std.specs.Prelude.{◌≡◌, ℕ, ◌<◌, List, length, Option, ◌++◌}
use Rattle.std.specs.Io.KnownBytes.{Appends}

-- the bytes are a prefix of the text, perhaps all of it
pub record IsBeginningOf (text bytes : List ℕ) : Type 0 where
  pub rest : List ℕ
  pub whole : text ≡ bytes ++ rest

-- a prefix of the text was written, perhaps all of it
pub record AppendsBeginning (old new : Option (List ℕ)) (text : List ℕ) : Type 0 where
  pub part : List ℕ
  pub rest : List ℕ
  pub whole : text ≡ part ++ rest
  pub written : Appends old new part

-- a proper prefix of the text was written
pub record AppendsPart (old new : Option (List ℕ)) (text : List ℕ) : Type 0 where
  pub part : List ℕ
  pub rest : List ℕ
  pub whole : text ≡ part ++ rest
  pub proper : 0 < length rest
  pub written : Appends old new part
